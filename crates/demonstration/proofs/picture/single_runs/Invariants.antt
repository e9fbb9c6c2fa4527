-- The events so far.
use Rattle.std.proofs.Common.{◌≡◌, take}
use Rattle.machine_model.specs.Runs.{events_of}
use Rattle.demonstration.proofs.picture.single_runs.Given as goal

abbrev pub invariant-loop-event : goal.invariant-loop-event
invariant-loop-event l = events_of l.runs.items ≡ take l.event-index l.events
