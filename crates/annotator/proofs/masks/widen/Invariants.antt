use Rattle.annotator.proofs.Imports.{take, Widened}
use Rattle.annotator.proofs.masks.widen.Given as goal

abbrev pub invariant-loop-source : goal.invariant-loop-source
invariant-loop-source l = Widened (take l.source-index l.sources) l.mask l.initial.masks.items l.masks.items l.initial.work.items l.work.items
