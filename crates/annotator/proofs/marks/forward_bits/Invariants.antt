use Rattle.annotator.proofs.Imports.{AreForwards}
use Rattle.annotator.proofs.marks.forward_bits.Given as goal

abbrev pub invariant-loop-i : goal.invariant-loop-i
invariant-loop-i l = AreForwards l.program l.i l.bits.items
