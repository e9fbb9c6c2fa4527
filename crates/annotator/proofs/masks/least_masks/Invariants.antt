use Rattle.annotator.proofs.Imports.{left_to_do}
use Rattle.annotator.proofs.Spread.{Spread}
use Rattle.annotator.proofs.masks.least_masks.Given as goal

abbrev pub invariant-loop-j : goal.invariant-loop-j
invariant-loop-j l = Spread l.program l.masks.items l.work.items

abbrev pub decreases-loop-j : goal.decreases-loop-j
decreases-loop-j l = left_to_do l.masks.items l.work.items
