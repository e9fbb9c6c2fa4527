-- The instructions so far are in range.
use Rattle.canonical_text.proofs.Imports.{take, All, IsInRange}
use Rattle.canonical_text.proofs.ranges.code_in_range.Given as goal

abbrev pub invariant-loop-marked : goal.invariant-loop-marked
invariant-loop-marked l = All (λ m. IsInRange m.op) (take l.marked-index l.code)
