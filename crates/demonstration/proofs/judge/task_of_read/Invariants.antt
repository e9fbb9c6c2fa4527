-- what is left of the number, among the commits that are left
use Rattle.demonstration.proofs.Imports.{◌≡◌, drop, reading_task}
use Rattle.demonstration.proofs.judge.task_of_read.Given as goal

abbrev pub invariant-loop-commit : goal.invariant-loop-commit
invariant-loop-commit l = reading_task (drop l.commit-index l.commits) l.head l.left ≡ reading_task l.commits l.head l.number
