-- No more than there were.
use Rattle.std.proofs.Common.{◌≤◌, length}
use Rattle.step_picture.proofs.part.lives_in.Given as goal

abbrev pub invariant-loop-life : goal.invariant-loop-life
invariant-loop-life l = length l.found.items ≤ l.life-index
