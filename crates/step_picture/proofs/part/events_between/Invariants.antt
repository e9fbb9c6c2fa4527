-- No more than there are events.
use Rattle.std.proofs.Common.{◌≤◌, length}
use Rattle.step_picture.proofs.part.events_between.Given as goal

abbrev pub invariant-loop-index : goal.invariant-loop-index
invariant-loop-index l = length l.found.items ≤ l.index
