use Rattle.annotator.proofs.Imports.{AreCreates}
use Rattle.annotator.proofs.marks.create_masks.Given as goal

abbrev pub invariant-loop-task : goal.invariant-loop-task
invariant-loop-task l = AreCreates l.program l.task l.sets.items
