-- The set is the number with its bits.
use Rattle.std.proofs.Common.{ℕ, ap, ◌∙◌}
use Rattle.mips_instructions.specs.Words.{has}
use Rattle.unit_core.specs.Units.{active_of}
use Rattle.unit_waits.proofs.Masks.{mask_is}
use Rattle.unit_waits.proofs.unit.arrived.Goals as goal

pub returns : goal.returns
returns c =
    mask_is c.bits.result (active_of c.args.unit.now).arrived c.bits.ensures.range
    (λ r within. ap (λ (n : ℕ). has n r) c.bits.ensures.value ∙ c.arrived_set.ensures r within)
