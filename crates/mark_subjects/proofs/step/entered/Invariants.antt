-- No step so far leads into a task.
use Rattle.std.proofs.Common.{◌≡◌, length}
use Rattle.mark_subjects.specs.Steps.{entered}
use Rattle.mark_subjects.proofs.step.entered.Given as goal

abbrev pub invariant-loop-rest : goal.invariant-loop-rest
invariant-loop-rest l = entered l.subject l.rest ≡ entered l.subject l.path

abbrev pub decreases-loop-rest : goal.decreases-loop-rest
decreases-loop-rest l = length l.rest
