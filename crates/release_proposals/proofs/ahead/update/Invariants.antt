-- The table stays as long.
use Rattle.std.proofs.Common.{◌≡◌, length}
use Rattle.release_proposals.proofs.ahead.update.Given as goal

abbrev pub invariant-loop-behind : goal.invariant-loop-behind
invariant-loop-behind l = length l.table.items ≡ length l.program.code
