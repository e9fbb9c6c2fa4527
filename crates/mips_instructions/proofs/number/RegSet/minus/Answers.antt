use Rattle.std.specs.Prelude.{◌&&◌, not}
use Rattle.std.proofs.Common.{◌∙◌}
use Rattle.mips_instructions.specs.Words.{has}
use Rattle.mips_instructions.proofs.SetLemmas.{has-minus}
use Rattle.mips_instructions.proofs.number.RegSet.minus.Goals as goal

pub returns : goal.returns
returns c = record {
  members = λ r.
      has-minus c.self.inside.bits c.other.inside.bits r c.self.invariant c.other.invariant
      ∙ (λ j. has (c.self.view_is j) r && not (has (c.other.view_is j) r));
}
