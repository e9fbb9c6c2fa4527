use Rattle.operand_forms.proofs.FirstUnfit.{directive_told}
use Rattle.operand_forms.proofs.laws.first_unfit_token_of_a_directive_is_named.Goals as goal

pub returns : goal.returns
returns c = directive_told
