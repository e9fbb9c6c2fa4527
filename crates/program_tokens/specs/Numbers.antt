-- Numbers in a program text (hexadecimal as the MIPS assemblers write it).
use Rattle.std.specs.Prelude.{ℕ, ℤ, pos, neg_ℤ, List, [], ◌∷◌, Option, Some, None, Bool, false, length, drop, slice_index, codes, if◌then◌else◌, ◌==◌, ◌&&◌, ◌^◌, nat_lt, nat_eq}
use Rattle.std.specs.List.{list_all, starts_with}
use Rattle.std.specs.Option.{option_map}
use Rattle.std.specs.Str.{byte}
use Rattle.std.specs.Str.Parse.{digits_value}
use Rattle.std.specs.Char.{is_digit, is_ascii_digit}
use Rattle.program_tokens.specs.declared.token.Number.{Number}
use Rattle.program_tokens.specs.declared.token.Number.TheVariants.{Small, Large}

abbrev pub begins_with_digit : List ℕ → Bool
begins_with_digit [] = false
begins_with_digit (b ∷ bs) = is_ascii_digit b

-- The number that digits of a radix spell: at least one digit, and nothing else. The digits from 10 on
-- are letters of either case.
unfoldable pub number_in : ℕ → List ℕ → Option ℕ
number_in radix text =
    if nat_lt 0 (length text) && list_all (λ d. is_digit d radix) text then Some (digits_value radix text) else None

-- `0x` and hexadecimal digits, or decimal digits
unfoldable pub magnitude_of : List ℕ → Option ℕ
magnitude_of text =
    if starts_with nat_eq text (codes "0x") then number_in 16 (drop 2 text) else number_in 10 text

-- A number whose magnitude is 2^40 or more is beyond every range of the grammar, so its size is not kept.
abbrev pub limited : ℕ → ℤ → Number
limited magnitude z = if nat_lt magnitude (2 ^ 40) then Small z else Large

abbrev pub positive : ℕ → Number
positive n = limited n (pos n)

abbrev pub negative : ℕ → Number
negative n = limited n (neg_ℤ (pos n))

-- The number that these bytes spell, with a minus before it or none.
unfoldable pub number_of : List ℕ → Option Number
number_of text =
    if slice_index text 0 == byte "-" then option_map negative (magnitude_of (drop 1 text))
    else option_map positive (magnitude_of text)
