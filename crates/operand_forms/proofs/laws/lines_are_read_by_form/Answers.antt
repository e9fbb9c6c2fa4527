use Rattle.operand_forms.proofs.CodeLines.{line_agrees}
use Rattle.operand_forms.proofs.laws.lines_are_read_by_form.Goals as goal

pub returns : goal.returns
returns c = line_agrees
