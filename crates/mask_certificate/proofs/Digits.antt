-- The digits of a mask: each adds to a number, and a byte that is none makes it more than any mask.
use Rattle.std.proofs.Common.{◌≡◌, ℕ, suc, ◌+◌, ◌-◌, ◌*◌, ◌^◌, ◌<◌, ◌≤◌, Bool, true, false, cond, ◌&&◌, eqb, ltb, leb, List, [], ◌∷◌, ◌++◌, length, get_or, take, drop, Option, Some, None, refl, sym, ◌∙◌, ap, arith, lit<, add-one}
use Rattle.std.specs.Char.{digit_value}
use Rattle.std.specs.List.{list_all}
use Rattle.std.specs.Str.Parse.{digits_value, digits_value_after}
use Rattle.std.proofs.lemmas.Bool.{agree_below_at, eqb-true, cond-true, cond-false, lt-ltb, le-ltb, eq-eqb, and_parts, leb-true, ltb-true, false_from_ne_true, true≢false}
use Rattle.std.proofs.lemmas.List.{take_more, take-append-drop, length-drop}
use Rattle.std.proofs.lemmas.List.Folds.{list_all_more, list_all-append}
use Rattle.std.proofs.Math.Nat.{pow-le-pow_right, pow-suc, pow-succ', mul_assoc}
use Rattle.std.specs.Prelude.{IsSome, IfSome, ◌↔◌}
use Rattle.mask_certificate.specs.declared.fault.MaskSpelling.{MaskSpelling}
use Rattle.mask_certificate.specs.CertificateText.{mask_digits}
use Rattle.mask_certificate.specs.declared.reading.TheConstants.{MASK_DIGITS}
use Rattle.mask_certificate.specs.CertificateReading.{is_mask_digit, mask_digit, is_mask, mask_in}

-- each entry of the table is that of its byte
pub table_right : (byte : ℕ) → byte < 256 → get_or MASK_DIGITS byte 0 ≡ mask_digit byte
table_right byte small = eqb-true _ _ (agree_below_at (λ b. eqb (get_or MASK_DIGITS b 0) (mask_digit b)) (λ _. true) 256 byte refl small)

-- no byte counts more than one that is no digit
pub digit_most : (byte : ℕ) → byte < 256 → mask_digit byte ≤ 2 ^ 34
digit_most byte small = leb-true _ _ (agree_below_at (λ b. leb (mask_digit b) (2 ^ 34)) (λ _. true) 256 byte refl small)

-- digits after others
pub after_append : (n : ℕ) (front back : List ℕ) → digits_value_after 16 n (front ++ back) ≡ digits_value_after 16 (digits_value_after 16 n front) back
after_append n [] back = refl
after_append n (c ∷ front) back = after_append (n * 16 + digit_value c) front back

-- each digit after a number makes it 16 times as great, or more
after_least : (n least : ℕ) (ds : List ℕ) → least ≤ n → least * 16 ^ length ds ≤ digits_value_after 16 n ds
after_least n least [] le = omega arith
after_least n least (c ∷ ds) le =
    let behind = after_least (n * 16 + digit_value c) (least * 16) ds (omega arith) in
    let same : least * 16 ^ suc (length ds) ≡ least * 16 * 16 ^ length ds =
    ap (λ p. least * p) (pow-succ' 16 (length ds)) ∙ sym (mul_assoc least 16 (16 ^ length ds)) in
    omega (arith, same, behind)

-- one digit more of a loop's number, which began with `start`
module _ (ds : List ℕ) (start number k : ℕ) (within : k < length ds) where
  more : list_all is_mask_digit (take (k + 1) ds) ≡ (list_all is_mask_digit (take k ds) && is_mask_digit (get_or ds k 0))
  more = list_all_more is_mask_digit ds k 0 within

  pub digits_more : (list_all is_mask_digit (take k ds) ≡ true → number ≡ digits_value_after 16 start (take k ds))
      → list_all is_mask_digit (take (k + 1) ds) ≡ true → number * 16 + mask_digit (get_or ds k 0) ≡ digits_value_after 16 start (take (k + 1) ds)
  digits_more before all =
      let digit = get_or ds k 0 in
      let both = sym more ∙ all in
      let same : number ≡ digits_value_after 16 start (take k ds) = before (and_parts (list_all is_mask_digit (take k ds)) (is_mask_digit digit) both).0 in
      let passes : is_mask_digit digit ≡ true = (and_parts (list_all is_mask_digit (take k ds)) (is_mask_digit digit) both).1 in
      let one : mask_digit digit ≡ digit_value digit = cond-true (is_mask_digit digit) (digit_value digit) (2 ^ 34) passes in
      let next : digits_value_after 16 start (take (k + 1) ds) ≡ digits_value_after 16 start (take k ds) * 16 + digit_value digit =
      ap (λ (xs : List ℕ). digits_value_after 16 start xs) (take_more ds k 0 within) ∙ after_append start (take k ds) (digit ∷ []) in
      omega (arith, same, one, next)

  more_by : (all one : Bool) → (all ≡ false → 2 ^ 34 ≤ number) → (one ≡ false → mask_digit (get_or ds k 0) ≡ 2 ^ 34) → (all && one) ≡ false → 2 ^ 34 ≤ number * 16 + mask_digit (get_or ds k 0)
  more_by true true before digit fails = absurd (true≢false fails)
  more_by true false before digit fails = (let great = digit refl in omega (arith, great))
  more_by false one before digit fails = (let great = before refl in omega (arith, great))

  pub other_more : (list_all is_mask_digit (take k ds) ≡ false → 2 ^ 34 ≤ number)
      → list_all is_mask_digit (take (k + 1) ds) ≡ false → 2 ^ 34 ≤ number * 16 + mask_digit (get_or ds k 0)
  other_more before fails =
      more_by _ _ before (λ none. cond-false (is_mask_digit (get_or ds k 0)) (digit_value (get_or ds k 0)) (2 ^ 34) none) (sym more ∙ fails)

-- what is left of 64 bits is room for the digits that are left of eight
pub room_more : (number digit k : ℕ) → 15 * number + 2 ^ 34 ≤ (2 ^ 34 + 60) * 16 ^ k → digit ≤ 2 ^ 34 → 15 * (number * 16 + digit) + 2 ^ 34 ≤ (2 ^ 34 + 60) * 16 ^ (k + 1)
room_more number digit k room most =
    let next : 16 ^ (k + 1) ≡ 16 ^ k * 16 = ap (λ n. 16 ^ n) (add-one k) ∙ pow-suc 16 k in
    omega (arith, next, room, most)

pub number_fits : (number digit k : ℕ) → 15 * number + 2 ^ 34 ≤ (2 ^ 34 + 60) * 16 ^ k → digit ≤ 2 ^ 34 → k < 8 → number * 16 + digit < 2 ^ 64
number_fits number digit k room most few =
    let fewer : k ≤ 7 = omega arith in
    let power : 16 ^ k ≤ 16 ^ 7 = pow-le-pow_right (lit< tt) fewer in
    omega (arith, room, most, power)

mask_by : (spelling : MaskSpelling) (ds : List ℕ) (n : ℕ) (all : Bool) → list_all is_mask_digit ds ≡ all → length ds ≡ mask_digits spelling
    → (all ≡ true → n ≡ digits_value 16 ds) → (all ≡ false → 2 ^ 34 ≤ n) → mask_in spelling ds ≡ cond (ltb n (2 ^ 34)) (Some n) None
mask_by spelling ds n true found long value other =
    let right : is_mask spelling ds ≡ ltb n (2 ^ 34) =
    rw (eq-eqb _ _ long, found, sym (value refl)) refl in
    ap (λ b. cond b (Some (digits_value 16 ds)) None) right ∙ ap (λ (m : ℕ). cond (ltb n (2 ^ 34)) (Some m) None) (sym (value refl))
mask_by spelling ds n false found long value other =
    let wrong : is_mask spelling ds ≡ false =
    rw (eq-eqb _ _ long, found) refl in
    cond-false (is_mask spelling ds) (Some (digits_value 16 ds)) None wrong
    ∙ sym (cond-false (ltb n (2 ^ 34)) (Some n) None (le-ltb n (2 ^ 34) (other refl)))

-- the mask of digits that make up a number, or more than any mask
pub mask_done : (spelling : MaskSpelling) (ds : List ℕ) (n : ℕ) → length ds ≡ mask_digits spelling
    → (list_all is_mask_digit ds ≡ true → n ≡ digits_value 16 ds) → (list_all is_mask_digit ds ≡ false → 2 ^ 34 ≤ n) → mask_in spelling ds ≡ cond (ltb n (2 ^ 34)) (Some n) None
mask_done spelling ds n long value other = mask_by spelling ds n _ refl long value other

-- sixteen digits in two halves
module _ (ds : List ℕ) (high : ℕ) (long : length ds ≡ 16)
    (value : list_all is_mask_digit (take 8 ds) ≡ true → high ≡ digits_value_after 16 0 (take 8 ds))
    (other : list_all is_mask_digit (take 8 ds) ≡ false → 2 ^ 34 ≤ high) where
  both : list_all is_mask_digit ds ≡ (list_all is_mask_digit (take 8 ds) && list_all is_mask_digit (drop 8 ds))
  both = ap (λ (xs : List ℕ). list_all is_mask_digit xs) (sym (take-append-drop 8 ds)) ∙ list_all-append is_mask_digit (take 8 ds) (drop 8 ds)

  high_value : list_all is_mask_digit ds ≡ true → digits_value 16 ds ≡ digits_value_after 16 high (drop 8 ds)
  high_value all =
      ap (λ (xs : List ℕ). digits_value_after 16 0 xs) (sym (take-append-drop 8 ds))
      ∙ after_append 0 (take 8 ds) (drop 8 ds)
      ∙ ap (λ (n : ℕ). digits_value_after 16 n (drop 8 ds)) (sym (value (and_parts _ _ (sym both ∙ all)).0))

  pub wide_value : (n : ℕ) → (list_all is_mask_digit (drop 8 ds) ≡ true → n ≡ digits_value_after 16 high (drop 8 ds)) → list_all is_mask_digit ds ≡ true → n ≡ digits_value 16 ds
  wide_value n behind all =
      behind (and_parts (list_all is_mask_digit (take 8 ds)) (list_all is_mask_digit (drop 8 ds)) (sym both ∙ all)).1 ∙ sym (high_value all)

  none_by : (all : Bool) → list_all is_mask_digit ds ≡ all → (list_all is_mask_digit ds ≡ true → 2 ^ 34 ≤ digits_value 16 ds) → mask_in MaskSpelling.Wide ds ≡ None
  none_by true found least =
      let wrong : is_mask MaskSpelling.Wide ds ≡ false =
      rw (eq-eqb _ _ long, found, le-ltb (digits_value 16 ds) (2 ^ 34) (least found)) refl in
      cond-false (is_mask MaskSpelling.Wide ds) (Some (digits_value 16 ds)) None wrong
  none_by false found least =
      let wrong : is_mask MaskSpelling.Wide ds ≡ false =
      rw (eq-eqb _ _ long, found) refl in
      cond-false (is_mask MaskSpelling.Wide ds) (Some (digits_value 16 ds)) None wrong

  pub wide_none : 4 ≤ high → mask_in MaskSpelling.Wide ds ≡ None
  wide_none great =
      let least : list_all is_mask_digit ds ≡ true → 2 ^ 34 ≤ digits_value 16 ds = λ all.
      (let behind = after_least high 4 (drop 8 ds) great in
      let eight : length (drop 8 ds) ≡ 8 = length-drop 8 ds ∙ ap (λ n. n - 8) long in
      let same = high_value all in
      let power : 16 ^ length (drop 8 ds) ≡ 2 ^ 32 = ap (λ n. 16 ^ n) eight in
      omega (arith, behind, same, power)) in
      none_by _ refl least

  other_by : (first second : Bool) (n : ℕ) → (first ≡ false → 2 ^ 34 ≤ high) → high < 4 → (second ≡ false → 2 ^ 34 ≤ n) → (first && second) ≡ false → 2 ^ 34 ≤ n
  other_by true second n before small behind fails = behind fails
  other_by false second n before small behind fails = (let great = before refl in absurd (omega (arith, great, small)))

  pub wide_other : (n : ℕ) → high < 4 → (list_all is_mask_digit (drop 8 ds) ≡ false → 2 ^ 34 ≤ n) → list_all is_mask_digit ds ≡ false → 2 ^ 34 ≤ n
  wide_other n small behind fails = other_by _ _ n other small behind (sym both ∙ fails)

-- what `RegSet::from_bits` says, as one equation
pub from_bits_is : (r : Option ℕ) (n : ℕ) → (IsSome r ↔ (n < 2 ^ 34)) → IfSome r (λ set. set ≡ n) → r ≡ cond (ltb n (2 ^ 34)) (Some n) None
from_bits_is None n some value = sym (cond-false (ltb n (2 ^ 34)) (Some n) None (false_from_ne_true _ (λ e. true≢false (sym (some.1 (ltb-true n (2 ^ 34) e))))))
from_bits_is (Some set) n some value = ap (λ (m : ℕ). Some m) value ∙ sym (cond-true (ltb n (2 ^ 34)) (Some n) None (lt-ltb n (2 ^ 34) (some.0 refl)))
