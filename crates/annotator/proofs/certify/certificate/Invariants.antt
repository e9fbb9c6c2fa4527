use Rattle.annotator.proofs.Imports.{entries_of}
use Rattle.annotator.proofs.LeastMasks.{LeastBelow}
use Rattle.annotator.proofs.certify.certificate.Given as goal

abbrev pub invariant-loop-task : goal.invariant-loop-task
invariant-loop-task l = LeastBelow l.program l.task (entries_of l.lists.items)
