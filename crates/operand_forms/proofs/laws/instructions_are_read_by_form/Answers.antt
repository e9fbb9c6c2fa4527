use Rattle.operand_forms.proofs.AllMnemonics.{agrees}
use Rattle.operand_forms.proofs.laws.instructions_are_read_by_form.Goals as goal

pub returns : goal.returns
returns c = agrees
