-- What the classes of bytes have to do with each other.
use Rattle.canonical_text.proofs.Imports.{◌≡◌, ℕ, ◌<◌, ◌≤◌, List, [], ◌∷◌, Bool, true, false, arith, refl, ap, inl, inr, ◌==◌, nat_le, list_all, is_in_range, is_ascii_digit, is_ascii_alphanumeric, digit_value, digit_glyph, and_parts, and_from, or_cases, or_left, le-leb, leb-true, eqb-true, or_from, agree_below_at, is_text_byte, is_blank, is_name_byte}
use Rattle.std.specs.Int.{IsInRange}
use Rattle.canonical_text.proofs.Spelling.{differs}

pub all_of : (p q : ℕ → Bool) → ((b : ℕ) → p b ≡ true → q b ≡ true) → (bs : List ℕ) → list_all p bs ≡ true → list_all q bs ≡ true
all_of p q each [] h = refl
all_of p q each (b ∷ bs) h =
    let parts = and_parts (p b) (list_all p bs) h in
    and_from (q b) (list_all q bs) (each b parts.0) (all_of p q each bs parts.1)

range_text : (low high b : ℕ) → 32 ≤ low → high ≤ 126 → is_in_range low high b ≡ true → is_text_byte b ≡ true
range_text low high b from to h =
    let parts = and_parts (nat_le low b) (nat_le b high) h in
    let above : 32 ≤ b = omega (arith, leb-true low b parts.0) in
    let below : b ≤ 126 = omega (arith, leb-true b high parts.1) in
    or_left _ (b == 9) (and_from _ _ (le-leb 32 b above) (le-leb b 126 below))

alphanumeric_text : (b : ℕ) → is_ascii_alphanumeric b ≡ true → is_text_byte b ≡ true
alphanumeric_text b h =
    elim (or_cases _ (is_in_range 97 122 b) h) [
      | inl others ↦ elim (or_cases (is_in_range 48 57 b) (is_in_range 65 90 b) others) [
        | inl digit ↦ range_text 48 57 b (omega arith) (omega arith) digit
        | inr upper ↦ range_text 65 90 b (omega arith) (omega arith) upper
      ]
      | inr lower ↦ range_text 97 122 b (omega arith) (omega arith) lower
    ]

underscore_text : (b : ℕ) → (b == 95) ≡ true → is_text_byte b ≡ true
underscore_text b h = ap is_text_byte (eqb-true b 95 h)

pub name_byte_text : (b : ℕ) → is_name_byte b ≡ true → is_text_byte b ≡ true
name_byte_text b h =
    elim (or_cases (is_ascii_alphanumeric b) (b == 95) h) [
      | inl plain ↦ alphanumeric_text b plain
      | inr underscore ↦ underscore_text b underscore
    ]

pub not_blank : (p : ℕ → Bool) (b : ℕ) → p b ≡ true → p 32 ≡ false → p 9 ≡ false → is_blank b ≡ false
not_blank p b holds space tab = or_from (b == 32) (b == 9) (differs p b 32 holds space) (differs p b 9 holds tab)

pub digit_alphanumeric : (b : ℕ) → is_ascii_digit b ≡ true → is_ascii_alphanumeric b ≡ true
digit_alphanumeric b h = or_left _ _ (or_left (is_ascii_digit b) (is_in_range 65 90 b) h)

pub alphanumeric_name : (b : ℕ) → is_ascii_alphanumeric b ≡ true → is_name_byte b ≡ true
alphanumeric_name b h = or_left (is_ascii_alphanumeric b) (b == 95) h

pub digit_of_range : (b : ℕ) → IsInRange 48 57 b → is_ascii_digit b ≡ true
digit_of_range b h = and_from _ _ (le-leb 48 b h.0) (le-leb b 57 h.1)

-- Hexadecimal digits.

pub glyph_alphanumeric : (d : ℕ) → d < 16 → is_ascii_alphanumeric (digit_glyph false d) ≡ true
glyph_alphanumeric d below = agree_below_at (λ d. is_ascii_alphanumeric (digit_glyph false d)) (λ _. true) 16 d refl below

pub glyph_value : (d : ℕ) → d < 16 → digit_value (digit_glyph false d) ≡ d
glyph_value d below = eqb-true _ d (agree_below_at (λ d. digit_value (digit_glyph false d) == d) (λ _. true) 16 d refl below)
