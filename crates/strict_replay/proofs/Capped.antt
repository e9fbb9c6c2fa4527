-- A number that is held back at a limit keeps to the limit as further digits come.
use Rattle.std.proofs.Common.{◌≡◌, ℕ, ◌+◌, ◌*◌, ◌≤◌, arith}
use Rattle.std.specs.Prelude.{min}
use Rattle.std.proofs.Math.Nat.{mul-le-mul_right}

pub capped : (limit n v radix d : ℕ) → v ≡ min n limit → 1 ≤ radix → min (v * radix + d) limit ≡ min (n * radix + d) limit
capped limit n v radix d is_capped positive = grind (arith, mul-le-mul_right)
