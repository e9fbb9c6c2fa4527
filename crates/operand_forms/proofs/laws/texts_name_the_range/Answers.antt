use Rattle.operand_forms.proofs.TextsNamed.{shape_ranged}
use Rattle.operand_forms.proofs.laws.texts_name_the_range.Goals as goal

pub returns : goal.returns
returns c = shape_ranged
