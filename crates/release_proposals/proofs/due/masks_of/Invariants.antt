-- The table stays as long.
use Rattle.std.proofs.Common.{◌≡◌, length}
use Rattle.release_proposals.proofs.due.masks_of.Given as goal

abbrev pub invariant-loop-task : goal.invariant-loop-task
invariant-loop-task l = length l.table.items ≡ length l.program.code
