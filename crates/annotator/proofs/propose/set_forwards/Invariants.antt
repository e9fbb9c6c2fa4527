use Rattle.annotator.proofs.Imports.{◌≡◌, take, with_forwards}
use Rattle.annotator.proofs.propose.set_forwards.Given as goal

abbrev pub invariant-loop-i : goal.invariant-loop-i
invariant-loop-i l = l.code ≡ with_forwards l.initial.code (take l.i l.forwards)
