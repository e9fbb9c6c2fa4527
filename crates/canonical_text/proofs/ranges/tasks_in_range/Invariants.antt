-- The tasks so far are in range.
use Rattle.canonical_text.proofs.Imports.{take, All, IsTaskInRange}
use Rattle.canonical_text.proofs.ranges.tasks_in_range.Given as goal

abbrev pub invariant-loop-task : goal.invariant-loop-task
invariant-loop-task l = All IsTaskInRange (take l.task-index l.tasks)
