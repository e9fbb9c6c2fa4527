-- No path so far has such a step.
use Rattle.std.proofs.Common.{◌≡◌, drop}
use Rattle.mark_subjects.specs.Steps.{first_entered}
use Rattle.mark_subjects.proofs.step.first_entered.Given as goal

abbrev pub invariant-loop-shown : goal.invariant-loop-shown
invariant-loop-shown l = first_entered l.subject (drop l.shown-index l.list) ≡ first_entered l.subject l.list
