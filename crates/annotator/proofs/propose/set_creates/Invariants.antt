use Rattle.annotator.proofs.Imports.{◌≡◌, take, with_creates}
use Rattle.annotator.proofs.propose.set_creates.Given as goal

abbrev pub invariant-loop-task : goal.invariant-loop-task
invariant-loop-task l = l.tasks ≡ with_creates l.initial.tasks (take l.task l.creates)
