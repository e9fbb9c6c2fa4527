-- The registers below the number that pass the test.
use Rattle.std.proofs.Common.{◌≡◌, ℕ, ◌<◌, Bool, filter}
use Rattle.task_descriptor.specs.Listing.{numbers_below}
use Rattle.mark_subjects.proofs.parts.registers_where.Given as goal

abbrev pub invariant-loop-number : goal.invariant-loop-number
invariant-loop-number g l =
    (p : ℕ → Bool) → ((r : ℕ) → r < 34 → (b : Bool) → goal.F-post g l.test r b → b ≡ p r) → l.list.items ≡ filter p (numbers_below l.number)
