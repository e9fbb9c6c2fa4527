-- No task before this one lacks any.
use Rattle.std.proofs.Common.{ℕ, ◌<◌}
use Rattle.finding_paths.specs.Steps.{TaskLacks}
use Rattle.finding_paths.proofs.reaching.some_task_lacks.Given as goal

abbrev pub invariant-loop-task : goal.invariant-loop-task
invariant-loop-task l = (t : ℕ) → t < l.task → TaskLacks l.program t l.index l.written → ⊥
