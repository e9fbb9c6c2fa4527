use Rattle.annotator.proofs.Imports.{lists_of, AreLeading}
use Rattle.annotator.proofs.leading.leading.Given as goal

abbrev pub invariant-loop-i : goal.invariant-loop-i
invariant-loop-i l = AreLeading l.program l.i (lists_of l.lists.items)
