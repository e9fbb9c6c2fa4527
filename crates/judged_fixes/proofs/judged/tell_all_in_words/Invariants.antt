-- The errors are the same, but for what is to be done.
use Rattle.judged_fixes.specs.Fixed.{AreSameErrors}
use Rattle.judged_fixes.proofs.judged.tell_all_in_words.Given as goal

abbrev pub invariant-loop-place : goal.invariant-loop-place
invariant-loop-place l = AreSameErrors l.errors.items l.initial.errors.items
