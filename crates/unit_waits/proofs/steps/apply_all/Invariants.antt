-- So many events were applied.
use Rattle.unit_waits.proofs.Applying.{HasApplied}
use Rattle.unit_waits.proofs.steps.apply_all.Given as goal

abbrev pub invariant-loop-event : goal.invariant-loop-event
invariant-loop-event l = HasApplied l.initial.machine l.events l.event-index l.machine
