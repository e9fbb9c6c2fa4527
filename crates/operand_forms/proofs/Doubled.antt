-- A number that is held back at 2^32 keeps to it as further digits come.
use Rattle.std.proofs.Common.{◌≡◌, ℕ, ◌+◌, ◌*◌, ◌^◌, arith}
use Rattle.std.specs.Prelude.{min}

pub doubled : (n v d : ℕ) → v ≡ min n (2 ^ 32) → min (v * 2 + d) (2 ^ 32) ≡ min (n * 2 + d) (2 ^ 32)
doubled n v d is_held = grind arith
