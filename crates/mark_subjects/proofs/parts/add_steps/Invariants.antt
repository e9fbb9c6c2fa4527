-- The steps so far, with those of what is left, are all steps.
use Rattle.std.proofs.Common.{◌≡◌, ◌++◌, length}
use Rattle.mark_subjects.specs.Parts.{steps_after}
use Rattle.mark_subjects.proofs.parts.add_steps.Given as goal

abbrev pub invariant-loop-rest : goal.invariant-loop-rest
invariant-loop-rest l =
    l.spans.items ++ steps_after l.subject l.before l.rest ≡ l.initial.spans.items ++ steps_after l.subject l.first l.path

abbrev pub decreases-loop-rest : goal.decreases-loop-rest
decreases-loop-rest l = length l.rest
