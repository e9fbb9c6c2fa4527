-- The tokens counted, with those of the labels in front of the rest, are those of all labels.
use Rattle.std.proofs.Common.{◌≡◌, ◌+◌, length}
use Rattle.operand_forms.specs.Meant.{label_tokens}
use Rattle.operand_forms.proofs.meant.label_tokens.Given as goal

abbrev pub invariant-loop-rest : goal.invariant-loop-rest
invariant-loop-rest l = record {
  counted : l.count + label_tokens l.rest ≡ label_tokens l.tokens;
  within : l.count + length l.rest ≡ length l.tokens;
}

abbrev pub decreases-loop-rest : goal.decreases-loop-rest
decreases-loop-rest l = length l.rest
