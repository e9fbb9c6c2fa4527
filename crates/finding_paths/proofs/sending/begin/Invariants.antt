-- The entries so far are marked.
use Rattle.finding_paths.specs.Steps.{IsBegun}
use Rattle.finding_paths.proofs.sending.begin.Given as goal

abbrev pub invariant-loop-task : goal.invariant-loop-task
invariant-loop-task l = IsBegun l.program l.task-index l.marks.items l.work.items
