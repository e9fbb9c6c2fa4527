use Rattle.operand_forms.proofs.Directives.{agrees}
use Rattle.operand_forms.proofs.laws.directives_are_read_by_form.Goals as goal

pub returns : goal.returns
returns c = agrees
