-- What may follow the `$` of a register.
use Rattle.std.specs.Prelude.{ℕ, List, [], ◌∷◌, Option, Some, None, Bool, length, slice_index, codes, if◌then◌else◌, ◌==◌, ◌&&◌, nat_lt, nat_le}
use Rattle.std.specs.List.{position}
use Rattle.std.specs.Option.{option_and_then}
use Rattle.std.specs.Str.{bytes_eq, byte}
use Rattle.program_tokens.specs.Numbers.{begins_with_digit, number_in}

-- The names of the registers 0 to 33 in this order (MIPS manual; hi and lo have the numbers 32 and 33
-- by this project's choice).
abbrev pub register_names : List (List ℕ)
register_names =
    codes "zero" ∷ codes "at" ∷ codes "v0" ∷ codes "v1" ∷ codes "a0" ∷ codes "a1" ∷ codes "a2" ∷ codes "a3"
    ∷ codes "t0" ∷ codes "t1" ∷ codes "t2" ∷ codes "t3" ∷ codes "t4" ∷ codes "t5" ∷ codes "t6" ∷ codes "t7"
    ∷ codes "s0" ∷ codes "s1" ∷ codes "s2" ∷ codes "s3" ∷ codes "s4" ∷ codes "s5" ∷ codes "s6" ∷ codes "s7"
    ∷ codes "t8" ∷ codes "t9" ∷ codes "k0" ∷ codes "k1" ∷ codes "gp" ∷ codes "sp" ∷ codes "fp" ∷ codes "ra"
    ∷ codes "hi" ∷ codes "lo" ∷ []

unfoldable pub register_named : List ℕ → Option ℕ
register_named word = position (λ name. bytes_eq word name) register_names

abbrev pub register_numbered : ℕ → Option ℕ
register_numbered n = if nat_le n 33 then Some n else None

-- a 0 before other bytes
abbrev pub has_leading_zero : List ℕ → Bool
has_leading_zero word = nat_lt 1 (length word) && slice_index word 0 == byte "0"

-- The register that a word spells. Where it begins with a digit it is the register's number, 0 to 33, in
-- decimal digits and without leading zeros; else it is its name.
unfoldable pub register_of : List ℕ → Option ℕ
register_of word =
    if begins_with_digit word then (if has_leading_zero word then None else option_and_then register_numbered (number_in 10 word))
    else register_named word
