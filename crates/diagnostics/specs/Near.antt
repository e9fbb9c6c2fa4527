-- Words that are nearly the same: one slip of the writer turns one into the other.
use Rattle.std.specs.Prelude.{ℕ, List, [], ◌∷◌, Bool, false, drop, Option, Some, None, if◌then◌else◌, ◌==◌, ◌&&◌, ◌||◌}
use Rattle.std.specs.Str.{bytes_eq}

-- equal except for the first two letters, which are exchanged
abbrev pub is_exchange : (word other : List ℕ) → Bool
is_exchange (a ∷ b ∷ rest) (c ∷ d ∷ others) = a == d && b == c && bytes_eq rest others
is_exchange _ _ = false

-- one slip at the beginning: a letter too many, one left out, one wrong, or two exchanged
abbrev pub is_slip : (word other : List ℕ) → Bool
is_slip word other =
    bytes_eq (drop 1 word) other || bytes_eq word (drop 1 other) || bytes_eq (drop 1 word) (drop 1 other) || is_exchange word other

-- one slip, after what both words begin with
abbrev pub is_near : (word other : List ℕ) → Bool
is_near (a ∷ word) (b ∷ other) = if a == b then is_near word other else is_slip (a ∷ word) (b ∷ other)
is_near word other = is_slip word other

-- the first of some words that is near, if one is
abbrev pub nearest : (word : List ℕ) → (words : List (List ℕ)) → Option (List ℕ)
nearest word [] = None
nearest word (first ∷ words) = if is_near word first then Some first else nearest word words
