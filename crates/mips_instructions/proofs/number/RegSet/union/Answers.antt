use Rattle.std.specs.Prelude.{◌||◌}
use Rattle.std.proofs.Common.{◌∙◌}
use Rattle.std.proofs.lemmas.Nat.{or_lt}
use Rattle.mips_instructions.specs.Words.{has}
use Rattle.mips_instructions.proofs.SetLemmas.{has-union}
use Rattle.mips_instructions.proofs.number.RegSet.union.Goals as goal

pub invariant_of-result : goal.invariant_of-result
invariant_of-result c = or_lt 34 _ _ c.self.invariant c.other.invariant

pub returns : goal.returns
returns c = record {
  members = λ r.
      has-union c.self.inside.bits c.other.inside.bits r
      ∙ (λ j. has (c.self.view_is j) r || has (c.other.view_is j) r);
}
