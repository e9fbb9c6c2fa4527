-- The events of the runs so far.
use Rattle.std.proofs.Common.{◌≡◌, take}
use Rattle.machine_model.specs.Runs.{events_of}
use Rattle.run_picture.proofs.events.single_events.Given as goal

abbrev pub invariant-loop-run : goal.invariant-loop-run
invariant-loop-run l = l.events.items ≡ events_of (take l.run-index l.runs)
