-- No more than there are events.
use Rattle.std.proofs.Common.{◌≤◌}
use Rattle.step_picture.proofs.part.retired_before.Given as goal

abbrev pub invariant-loop-index : goal.invariant-loop-index
invariant-loop-index l = l.count ≤ l.index
