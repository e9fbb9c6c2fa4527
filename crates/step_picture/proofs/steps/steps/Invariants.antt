-- The steps so far, and those of the events that come.
use Rattle.std.proofs.Common.{◌≡◌, ◌≤◌, ◌+◌, ◌++◌, drop}
use Rattle.step_picture.specs.Steps.{steps_from, steps_of}
use Rattle.step_picture.proofs.steps.steps.Given as goal

abbrev pub invariant-loop-event : goal.invariant-loop-event
invariant-loop-event l = record {
  few : l.step ≤ l.event-index + 1;
  active : l.active ≤ l.event-index + 4294967296;
  steps : l.steps.items ++ steps_from l.active l.step (drop l.event-index l.events) ≡ steps_of l.events;
}
