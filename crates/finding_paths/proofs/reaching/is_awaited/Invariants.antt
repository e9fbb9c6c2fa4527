-- No task before this one is awaited.
use Rattle.std.proofs.Common.{ℕ, ◌<◌}
use Rattle.finding_paths.specs.Steps.{TaskIsAwaited}
use Rattle.finding_paths.proofs.reaching.is_awaited.Given as goal

abbrev pub invariant-loop-task : goal.invariant-loop-task
invariant-loop-task l = (t : ℕ) → t < l.task → TaskIsAwaited l.program t l.index → ⊥
