-- Labels are passed over.
use Rattle.std.proofs.Common.{◌≡◌, length}
use Rattle.operand_forms.specs.LinePlaces.{after_labels}
use Rattle.operand_forms.proofs.line_place.after_labels.Given as goal

abbrev pub invariant-loop-rest : goal.invariant-loop-rest
invariant-loop-rest l = after_labels l.line l.rest ≡ after_labels l.line l.places

abbrev pub decreases-loop-rest : goal.decreases-loop-rest
decreases-loop-rest l = length l.rest
