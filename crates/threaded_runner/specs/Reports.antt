-- What the report of a run by threads says of the run.
use Rattle.std.specs.Prelude.{◌≡◌, ◌≤◌, ◌↔◌, ℕ, List, Bool, true, false, length, drop}
use Rattle.std.specs.List.{AllByRecursion}
use Rattle.machine_model.specs.Replay.{Replays}
use Rattle.machine_model.specs.declared.event.Event.{Event}
use Rattle.machine_model.specs.declared.event.Event.TheVariants.{Exec, Drop}
use Rattle.machine_model.specs.declared.event.Standing.TheVariants.{Running}
use Rattle.mark_checker.specs.Places.{Checked}
use Rattle.sequencer.specs.Machines.{state, units_of}
use Rattle.threaded_runner.specs.declared.report.How.TheVariants.{Ended, OutOfBudget}
use Rattle.threaded_runner.specs.declared.report.Report.{Report}
use Rattle.threaded_runner.specs.Counts.{IsCounted}

-- an event that may come once the budget is spent: an instruction of a burst that is handed in late, or a task that is
-- given up for want of memory
abbrev pub is_late : Event → Bool
is_late (Exec k) = true
is_late (Drop k) = true
is_late e = false

-- after the first `budget` events only such come
abbrev pub AreLate : (budget : ℕ) → List Event → Type 0
AreLate budget history = AllByRecursion (λ e. is_late e ≡ true) (drop budget history)

-- It is of a run over this program and certificate, with the given numbers of units and workers and this budget: the
-- machine is the replay of its history, of which each worker's number of events is counted; the run has ended exactly
-- where the machine does not continue, and was out of budget only with at least `budget` events; what comes after
-- these is late.
pub record IsThreadsReportOf (checked : Checked) (unit_count worker_count budget : ℕ) (report : Report) : Type 0 where
  pub accepted : report.machine.accepted ≡ checked
  pub units : units_of report.machine ≡ unit_count
  pub replay : Replays report.machine.accepted.program (units_of report.machine) report.machine.history (state report.machine)
  pub workers : length report.counts.items ≡ worker_count
  pub counted : IsCounted unit_count report.machine.history report.counts.items
  pub ended : (report.how ≡ Ended) ↔ ((state report.machine).outcome ≡ Running → ⊥)
  pub spent : report.how ≡ OutOfBudget → budget ≤ length report.machine.history
  pub late : AreLate budget report.machine.history
