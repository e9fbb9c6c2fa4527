use Rattle.operand_forms.proofs.FirstUnfit.{instruction_named}
use Rattle.operand_forms.proofs.laws.first_unfit_token_is_named.Goals as goal

pub returns : goal.returns
returns c = instruction_named
