-- The marks that were passed over can stand where they do.
use Rattle.std.proofs.Common.{◌≡◌, ◌+◌, drop, false}
use Rattle.operand_forms.specs.Meant.{bad_mark}
use Rattle.operand_forms.proofs.meant.bad_mark.Given as goal

abbrev pub invariant-loop-token : goal.invariant-loop-token
invariant-loop-token l = record {
  value : l.index + bad_mark l.forward l.stop (drop l.token-index l.tokens) ≡ bad_mark false false l.tokens;
  counted : l.index ≡ l.token-index;
}
