use Rattle.operand_forms.proofs.TextsNamed.{example_taken}
use Rattle.operand_forms.proofs.laws.examples_are_taken.Goals as goal

pub returns : goal.returns
returns c = example_taken
