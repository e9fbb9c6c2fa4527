-- The registers below 34 are all.
use Rattle.std.proofs.Common.{◌≡◌, ℕ, filter, ap, ◌∙◌, arith}
use Rattle.task_descriptor.specs.Listing.{numbers_below}
use Rattle.mark_subjects.specs.Subjects.{which}
use Rattle.mark_subjects.proofs.parts.registers_where.Goals as goal

pub returns : goal.returns
unfolding which
returns g c =
    λ p h. let ended : c.loop-number.number ≡ 34 = omega arith in
    c.loop-number.invariant p h ∙ ap (λ (n : ℕ). filter p (numbers_below n)) ended
