-- What may be told so far is picked.
use Rattle.finding_paths.specs.Candidates.{up_to, of_task}
use Rattle.finding_paths.specs.Steps.{Adds}
use Rattle.finding_paths.proofs.search.add_of_tasks.Given as goal

abbrev pub invariant-loop-task : goal.invariant-loop-task
invariant-loop-task l = Adds l.program (up_to of_task l.task) l.initial.list.items l.list.items
