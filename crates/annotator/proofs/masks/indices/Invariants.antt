use Rattle.annotator.proofs.Imports.{◌≡◌, range_with_len}
use Rattle.annotator.proofs.masks.indices.Given as goal

abbrev pub invariant-loop-i : goal.invariant-loop-i
invariant-loop-i l = l.list.items ≡ range_with_len 0 l.i
