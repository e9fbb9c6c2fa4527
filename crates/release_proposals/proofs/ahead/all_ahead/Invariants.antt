-- The table stays as long.
use Rattle.std.proofs.Common.{◌≡◌, length}
use Rattle.release_proposals.proofs.ahead.all_ahead.Given as goal

abbrev pub invariant-loop : goal.invariant-loop
invariant-loop l = length l.table.items ≡ length l.program.code
