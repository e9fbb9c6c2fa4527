-- The set is a number below 2 ^ 34.
use Rattle.std.proofs.Common.{◌<◌, ◌^◌, ℕ, subst}
use Rattle.task_descriptor.proofs.RegisterTests.{members_below}
use Rattle.task_descriptor.proofs.registers.has_registers.Goals as goal

pub returns : goal.returns
returns c = members_below c.args.set (subst (λ (n : ℕ). n < 2 ^ 34) c.bits.ensures.value c.bits.ensures.range)
