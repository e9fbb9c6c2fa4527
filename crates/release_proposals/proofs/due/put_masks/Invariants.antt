-- The table stays as long.
use Rattle.std.proofs.Common.{◌≡◌, length}
use Rattle.release_proposals.proofs.due.put_masks.Given as goal

abbrev pub invariant-loop-index : goal.invariant-loop-index
invariant-loop-index l = length l.table.items ≡ length l.initial.table.items
