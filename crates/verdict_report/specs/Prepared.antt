-- A replay before anything of it is written. No public contract cites it.
use Rattle.std.specs.Prelude.{◌≡◌, ℕ, List}
use Rattle.task_descriptor.specs.Listing.{Listing}
use Rattle.machine_model.specs.Answer.{play}
use Rattle.machine_model.specs.declared.event.Event.{Event}
use Rattle.report_texts.specs.OutputTexts.{Report}
use Rattle.verdict_report.specs.declared.replaying.Prepared.{Prepared}
use Rattle.verdict_report.specs.declared.replaying.Prepared.TheVariants.{Whole, Told}
use Rattle.verdict_report.specs.MachineText.{standing_status}

-- the status that events leave which are told as they are played
abbrev pub told_status : (units : ℕ) → Listing → List Event → ℕ
told_status units p events = standing_status (play p units events).state.outcome

-- it leads to a report for which this holds: it is one, or any text with the status that the events leave is one
abbrev pub LeadsTo : (Right : Report → Type 0) → (units : ℕ) → Prepared → Type 0
LeadsTo Right units (Whole report) = Right report
LeadsTo Right units (Told form accepted events) = (report : Report) → report.status ≡ told_status units accepted.program events.items → Right report
