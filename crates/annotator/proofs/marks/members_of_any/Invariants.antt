use Rattle.annotator.proofs.Imports.{AreMembers}
use Rattle.annotator.proofs.marks.members_of_any.Given as goal

abbrev pub invariant-loop-task : goal.invariant-loop-task
invariant-loop-task l = AreMembers l.program l.task l.marks.items
