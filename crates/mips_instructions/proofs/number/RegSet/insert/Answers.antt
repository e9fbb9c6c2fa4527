use Rattle.std.specs.Prelude.{◌||◌, ◌==◌}
use Rattle.std.proofs.Common.{◌∙◌, arith}
use Rattle.std.proofs.lemmas.Nat.{or_lt}
use Rattle.mips_instructions.specs.Words.{has}
use Rattle.mips_instructions.proofs.SetLemmas.{has-insert, one_bit-lt}
use Rattle.mips_instructions.proofs.number.RegSet.insert.Goals as goal

pub invariant_of-result : goal.invariant_of-result
invariant_of-result c = or_lt 34 _ _ c.self.invariant (one_bit-lt c.get.result c.get.ensures.range)

pub returns : goal.returns
returns c = record {
  members = λ r.
      has-insert c.self.inside.bits c.get.result r (omega arith)
      ∙ (λ j. has (c.self.view_is j) r || c.get.ensures.value j == r);
}
