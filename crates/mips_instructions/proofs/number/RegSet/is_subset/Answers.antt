use Rattle.mips_instructions.proofs.SetLemmas.{subset_test}
use Rattle.mips_instructions.proofs.number.RegSet.is_subset.Goals as goal

pub returns : goal.returns
returns c =
    record { members = subset_test c.self.inside.bits c.other.inside.bits c.args.self c.args.other c.self.view_is c.other.view_is }
