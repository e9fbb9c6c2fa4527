-- The marks so far, with those of what is left, are all.
use Rattle.std.proofs.Common.{◌≡◌, ◌++◌, length}
use Rattle.mark_diagnostics.specs.Together.{told_from, told_marks}
use Rattle.mark_diagnostics.proofs.together.add_marks.Given as goal

abbrev pub invariant-loop-rest : goal.invariant-loop-rest
invariant-loop-rest l = l.remarks.items ++ told_from l.before l.rest ≡ l.initial.remarks.items ++ told_marks l.marks

abbrev pub decreases-loop-rest : goal.decreases-loop-rest
decreases-loop-rest l = length l.rest
