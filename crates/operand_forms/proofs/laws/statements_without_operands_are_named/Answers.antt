use Rattle.operand_forms.proofs.TextsNamed.{none_taken}
use Rattle.operand_forms.proofs.laws.statements_without_operands_are_named.Goals as goal

pub returns : goal.returns
returns c = none_taken
