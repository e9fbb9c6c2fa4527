use Rattle.mips_instructions.proofs.SetLemmas.{empty_test}
use Rattle.mips_instructions.proofs.number.RegSet.is_empty.Goals as goal

pub returns-clause-members : goal.returns-clause-members
returns-clause-members c = empty_test c.self.inside.bits c.args.self c.self.view_is
