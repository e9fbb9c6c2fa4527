-- What of a file's mode says who may use it.
use Rattle.std.specs.Prelude.{ℕ, bit_and}

-- reading, writing and running for the owner, the group and all others: the nine lowest bits
abbrev pub permission_bits : (mode : ℕ) → ℕ
permission_bits mode = bit_and mode 511
