use Rattle.std.specs.Prelude.{ℕ, ◌<◌, ◌^◌}
use Rattle.std.proofs.Common.{subst}
use Rattle.mips_instructions.proofs.SetLemmas.{same_registers}
use Rattle.mips_instructions.proofs.number.RegSet.same.Goals as goal

pub returns : goal.returns
returns c =
    record {
      same =
          same_registers c.args.self c.args.other (subst (λ (x : ℕ). x < 2 ^ 34) c.self.view_is c.self.invariant)
          (subst (λ (x : ℕ). x < 2 ^ 34) c.other.view_is c.other.invariant) c.requires.members;
    }
