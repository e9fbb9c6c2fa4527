use Rattle.annotator.proofs.Imports.{take, indices_of, AreMarked}
use Rattle.annotator.proofs.marks.mark_all.Given as goal

abbrev pub invariant-loop-index : goal.invariant-loop-index
invariant-loop-index l = AreMarked (indices_of (take l.index-index l.list)) l.initial.marks l.marks
