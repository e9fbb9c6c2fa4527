-- Numbers are read back from the digits that `decimal` and `hexadecimal` write.
use Rattle.canonical_text.proofs.Imports.{◌≡◌, ℕ, zero, suc, ◌*◌, ◌/◌, ◌%◌, ◌^◌, ◌<◌, List, [], ◌∷◌, ◌++◌, true, false, Some, None, length, drop, arith, refl, ap, ◌∙◌, length-append, ◌&&◌, nat_lt, slice_index, codes, list_all, starts_with, is_ascii_digit, is_ascii_alphanumeric, is_digit, digit_value, decimal, digit_glyph, and_parts, and_from, and_left, and_right, lt-ltb, ne_eqb, false≢true, cond-true, cond-false, decimal_is_IsNumeral, decimal_digit, first_decimal, list_all-append, begins_with_digit, number_in, magnitude_of, has_leading_zero, hexadecimal}
use Rattle.std.specs.Prelude.{nat_eq}
use Rattle.std.specs.Str.Parse.{AllDigits, digits_value}
use Rattle.std.proofs.lemmas.Int.Digits.{digits_value_push}
use Rattle.std.proofs.lemmas.Str.Parse.{digit_from_value}
use Rattle.canonical_text.proofs.ByteTests.{digit_of_range, glyph_alphanumeric, glyph_value}

-- decimal digits, and the number that they write
pub record IsDecimal (ds : List ℕ) (n : ℕ) : Type 0 where
  pub some : 0 < length ds
  pub plain : list_all is_ascii_digit ds ≡ true
  pub digits : list_all (λ d. is_digit d 10) ds ≡ true
  pub value : digits_value 10 ds ≡ n

plain_digits : (ds : List ℕ) → AllDigits 10 ds → list_all is_ascii_digit ds ≡ true
plain_digits [] h = refl
plain_digits (d ∷ ds) h = and_from _ _ (digit_of_range d (digit_from_value d h.0)) (plain_digits ds h.1)

radix_digits : (radix : ℕ) (ds : List ℕ) → AllDigits radix ds → list_all (λ d. is_digit d radix) ds ≡ true
radix_digits radix [] h = refl
radix_digits radix (d ∷ ds) h = and_from _ _ (lt-ltb (digit_value d) radix h.0) (radix_digits radix ds h.1)

pub decimal_is : (n : ℕ) → n < 2 ^ 40 → IsDecimal (decimal n) n
decimal_is n small =
    let numeral = decimal_is_IsNumeral n (omega arith) in
    record {
      some = numeral.0.0;
      plain = plain_digits (decimal n) numeral.0.1;
      digits = radix_digits 10 (decimal n) numeral.0.1;
      value = numeral.1;
    }

numbers : (radix : ℕ) (ds : List ℕ) (n : ℕ) → 0 < length ds → list_all (λ d. is_digit d radix) ds ≡ true → digits_value radix ds ≡ n
    → number_in radix ds ≡ Some n
unfolding number_in
numbers radix ds n some digits value =
    cond-true (nat_lt 0 (length ds) && list_all (λ d. is_digit d radix) ds) (Some (digits_value radix ds)) None (and_from _ _ (lt-ltb 0 (length ds) some) digits)
    ∙ ap (λ (x : ℕ). Some x) value

pub number_in_decimal : (ds : List ℕ) (n : ℕ) → IsDecimal ds n → number_in 10 ds ≡ Some n
number_in_decimal ds n h = numbers 10 ds n h.some h.digits h.value

-- the second byte of `0x` is no decimal digit
not_hexadecimal : (ds : List ℕ) → list_all is_ascii_digit ds ≡ true → starts_with nat_eq ds (codes "0x") ≡ false
not_hexadecimal [] h = refl
not_hexadecimal (c ∷ []) h = and_right _ _ refl
not_hexadecimal (c ∷ d ∷ ds) h =
    let second = (and_parts (is_ascii_digit d) (list_all is_ascii_digit ds) (and_parts (is_ascii_digit c) (list_all is_ascii_digit (d ∷ ds)) h).1).0 in
    and_right (nat_eq 48 c) _ (and_left (nat_eq 120 d) true (ne_eqb 120 d (λ e. false≢true (ap is_ascii_digit e ∙ second))))

pub magnitude_decimal : (ds : List ℕ) (n : ℕ) → IsDecimal ds n → magnitude_of ds ≡ Some n
unfolding magnitude_of
magnitude_decimal ds n h =
    cond-false (starts_with nat_eq ds (codes "0x")) (number_in 16 (drop 2 ds)) (number_in 10 ds) (not_hexadecimal ds h.plain) ∙ number_in_decimal ds n h

pub first_digit : (ds : List ℕ) (n : ℕ) (rest : List ℕ) → IsDecimal ds n → begins_with_digit (ds ++ rest) ≡ true
first_digit [] n rest h = absurd (omega (arith, h.some))
first_digit (d ∷ ds) n rest h = (and_parts (is_ascii_digit d) (list_all is_ascii_digit ds) h.plain).0

-- no 0 leads, but where it is the only digit
pub no_leading_zero : (n : ℕ) → n < 2 ^ 40 → has_leading_zero (decimal n) ≡ false
no_leading_zero zero small = rw (decimal_digit 0 (omega arith)) refl
no_leading_zero (suc n) small =
    let first = first_decimal (suc n) (omega arith) (omega arith) in
    and_right (nat_lt 1 (length (decimal (suc n)))) _ (ne_eqb (slice_index (decimal (suc n)) 0) 48 (λ e. omega (arith, first, e)))

-- this many hexadecimal digits write each number below this
abbrev pub beyond : ℕ → ℕ
beyond zero = 1
beyond (suc count) = 16 * beyond count

pub hexadecimal_plain : (count n : ℕ) → list_all is_ascii_alphanumeric (hexadecimal count n) ≡ true
unfolding hexadecimal
hexadecimal_plain zero n = refl
hexadecimal_plain (suc count) n =
    list_all-append is_ascii_alphanumeric (hexadecimal count (n / 16)) (digit_glyph false (n % 16) ∷ [])
    ∙ and_from _ _ (hexadecimal_plain count (n / 16)) (and_from _ true (glyph_alphanumeric (n % 16) (omega arith)) refl)

is_digit_glyph : (d : ℕ) → d < 16 → is_digit (digit_glyph false d) 16 ≡ true
is_digit_glyph d below = lt-ltb _ 16 (omega (arith, glyph_value d below))

hexadecimal_digits : (count n : ℕ) → list_all (λ d. is_digit d 16) (hexadecimal count n) ≡ true
unfolding hexadecimal
hexadecimal_digits zero n = refl
hexadecimal_digits (suc count) n =
    list_all-append (λ d. is_digit d 16) (hexadecimal count (n / 16)) (digit_glyph false (n % 16) ∷ [])
    ∙ and_from _ _ (hexadecimal_digits count (n / 16)) (and_from _ true (is_digit_glyph (n % 16) (omega arith)) refl)

hexadecimal_value : (count n : ℕ) → n < beyond count → digits_value 16 (hexadecimal count n) ≡ n
unfolding hexadecimal
hexadecimal_value zero n below = omega arith
hexadecimal_value (suc count) n below =
    digits_value_push 16 (hexadecimal count (n / 16)) (digit_glyph false (n % 16))
    ∙ omega (arith, hexadecimal_value count (n / 16) (omega arith), glyph_value (n % 16) (omega arith))

pub length-hexadecimal : (count n : ℕ) → length (hexadecimal count n) ≡ count
unfolding hexadecimal
length-hexadecimal zero n = refl
length-hexadecimal (suc count) n = length-append (hexadecimal count (n / 16)) (digit_glyph false (n % 16) ∷ []) ∙ omega (arith, length-hexadecimal count (n / 16))

pub magnitude_hexadecimal : (count n : ℕ) → 0 < count → n < beyond count → magnitude_of (codes "0x" ++ hexadecimal count n) ≡ Some n
unfolding magnitude_of
magnitude_hexadecimal count n some below =
    numbers 16 (hexadecimal count n) n (omega (arith, length-hexadecimal count n)) (hexadecimal_digits count n) (hexadecimal_value count n below)
