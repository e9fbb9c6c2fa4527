-- Sets are equal where they have the same registers.
use Rattle.std.proofs.Common.{◌≡◌, ℕ, ap, ◌∙◌, sym}
use Rattle.std.proofs.lemmas.Bool.{eqb-true, eq-eqb}
use Rattle.mips_instructions.specs.Words.{has}
use Rattle.mips_instructions.proofs.SetLemmas.{same_set}
use Rattle.unit_core.proofs.burst.has_sent.Goals as goal

pub returns : goal.returns
returns c = (
  λ yes r. sym (c.sent_set.ensures r) ∙ ap (λ (set : ℕ). has set r) (eqb-true c.sent_set.result c.args.set (sym c.eq.ensures ∙ yes)),
  λ all. c.eq.ensures ∙ eq-eqb c.sent_set.result c.args.set (same_set c.sent_set.result c.args.set (λ r. c.sent_set.ensures r ∙ all r)),
)
