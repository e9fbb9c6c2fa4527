-- The tasks so far stand where they reach.
use Rattle.finding_paths.specs.Steps.{AreReaching}
use Rattle.finding_paths.proofs.reaching.reaching_tasks.Given as goal

abbrev pub invariant-loop-task : goal.invariant-loop-task
invariant-loop-task l = AreReaching l.program l.task l.table.items
