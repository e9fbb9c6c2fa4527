-- What the report of a run in steps says of the run.
use Rattle.std.specs.Prelude.{◌≡◌, ◌≤◌, ◌↔◌, ℕ, length}
use Rattle.machine_model.specs.Replay.{Replays}
use Rattle.machine_model.specs.declared.event.Standing.TheVariants.{Running}
use Rattle.mark_checker.specs.Places.{Checked}
use Rattle.sequencer.specs.Machines.{state, units_of}
use Rattle.unit_turns.specs.declared.predictor.Predictor.{Predictor}
use Rattle.unit_turns.specs.declared.report.StepsEnd.TheVariants.{Ended, OutOfBudget}
use Rattle.unit_turns.specs.declared.report.StepsReport.{StepsReport}
use Rattle.unit_turns.specs.Steps.{beginning, after_steps, Takes}

-- It is of the run of the schedule over this program and certificate, on the given number of units with this budget
-- and predictor: the machine is the replay of its history, and has the state and the events that the steps leave;
-- the run has ended exactly where the machine does not continue, was out of budget only with `budget` events, and
-- never has more.
pub record IsStepsReportOf (checked : Checked) (unit_count budget : ℕ) (predictor : Predictor) (report : StepsReport) : Type 0 where
  pub accepted : report.machine.accepted ≡ checked
  pub units : units_of report.machine ≡ unit_count
  pub replay : Replays report.machine.accepted.program (units_of report.machine) report.machine.history (state report.machine)
  pub takes : Takes checked.program unit_count budget (beginning checked.program predictor) report.steps
  pub left : state report.machine ≡ (after_steps checked.program unit_count budget report.steps (beginning checked.program predictor)).state
  pub events : report.machine.history ≡ (after_steps checked.program unit_count budget report.steps (beginning checked.program predictor)).events
  pub ended : (report.how ≡ Ended) ↔ ((state report.machine).outcome ≡ Running → ⊥)
  pub spent : report.how ≡ OutOfBudget → budget ≤ length report.machine.history
  pub within : length report.machine.history ≤ budget
