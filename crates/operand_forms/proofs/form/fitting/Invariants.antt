-- As many tokens as were counted fit, and what fits of the rest comes to them.
use Rattle.std.proofs.Common.{◌≡◌, ◌+◌, drop}
use Rattle.operand_forms.specs.Forms.{form_of, fitting}
use Rattle.operand_forms.specs.declared.form.Inside.TheVariants.{Before}
use Rattle.operand_forms.proofs.form.fitting.Given as goal

abbrev pub invariant-loop-token : goal.invariant-loop-token
invariant-loop-token l = record {
  value : l.count + fitting l.inside l.parts (drop l.token-index l.tokens) ≡ fitting Before (form_of l.fn.shape) l.tokens;
  counted : l.count ≡ l.token-index;
}
