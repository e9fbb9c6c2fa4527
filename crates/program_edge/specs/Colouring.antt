-- What is left open of colours is settled before the job is done.
use Rattle.std.specs.Prelude.{◌≡◌, Result, Ok, Err}
use Rattle.jobs.specs.declared.job.Colors.{Colors}
use Rattle.jobs.specs.declared.job.Job.{Job}
use Rattle.jobs.specs.declared.job.Job.TheVariants.{Explain}
use Rattle.command_line.specs.declared.request.Request.{Request}
use Rattle.program_edge.specs.declared.fault.Fault.{Fault}

-- nothing but the colours of `explain` differs
abbrev pub IsButColors : (asked settled : Job) → Type 0
IsButColors (Explain name certificate script warnings format colors) settled =
    (other : Colors) × (settled ≡ Explain name certificate script warnings format other)
IsButColors asked settled = settled ≡ asked

abbrev pub IsSettled : (asked settled : Result Request Fault) → Type 0
IsSettled (Ok request) settled = (job : Job) × IsButColors request.job job × (settled ≡ Ok (record request { job = job }))
IsSettled (Err fault) settled = settled ≡ Err fault
