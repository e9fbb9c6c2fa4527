-- How bytes of a text are shown: with no control byte but tabs, so they do nothing to a terminal.
use Rattle.std.specs.Prelude.{ℕ, ◌-◌, Bool, false, ◌&&◌, ◌||◌, List, [], ◌∷◌, take, slice_get, Option, Some, None, nat_lt, nat_le, nat_eq, if◌then◌else◌}
use Rattle.std.specs.List.{flat_map}
use Rattle.shown_names.specs.Shown.{escaped, is_printed}

-- a byte that is shown as it is: a tab, and what is of a name
abbrev pub is_plain : (readable : Bool) → ℕ → Bool
is_plain readable b = nat_eq b 9 || is_printed readable b

-- a byte as it is shown: if it is not plain, as \x and its two hexadecimal digits
abbrev pub shown_byte : (readable : Bool) → ℕ → List ℕ
shown_byte readable b = if is_plain readable b then b ∷ [] else escaped b

abbrev pub shown : (readable : Bool) → List ℕ → List ℕ
shown readable bs = flat_map (shown_byte readable) bs

-- a byte of a letter but its first
abbrev pub continues : ℕ → Bool
continues b = nat_le 128 b && nat_lt b 192

-- A place between two bytes that is inside no letter: this one, or up to three bytes before it (a letter of UTF-8 has at
-- most four).
abbrev pub is_inside : Option ℕ → Bool
is_inside None = false
is_inside (Some b) = continues b

abbrev pub step_back : List ℕ → ℕ → ℕ
step_back bs n = if is_inside (slice_get bs n) then n - 1 else n

unfoldable pub letter_start : List ℕ → ℕ → ℕ
letter_start bs n = step_back bs (step_back bs (step_back bs n))

-- the first bytes, at most the given number, without a part of a letter
abbrev pub front : List ℕ → ℕ → List ℕ
front bs n = take (letter_start bs n) bs
