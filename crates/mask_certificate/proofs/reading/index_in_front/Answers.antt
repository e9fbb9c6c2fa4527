-- The digits in front of the space are the index, or the bytes that were read show that there is none.
use Rattle.std.proofs.Common.{◌≡◌, ◌+◌, ◌*◌, ◌^◌, ◌<◌, ℕ, true, length, get_or, take, Some, sym, ◌∙◌, ap, arith, add-one}
use Rattle.std.specs.Char.{is_ascii_digit, digit_value}
use Rattle.std.specs.Str.Parse.{digits_value}
use Rattle.std.proofs.Math.Nat.{pow-suc}
use Rattle.std.proofs.lemmas.Bool.{true≢false, and_from, eq-eqb}
use Rattle.std.proofs.lemmas.Str.{digit_value_digit}
use Rattle.std.proofs.lemmas.Int.Digits.{digits_value_more}
use Rattle.std.proofs.lemmas.List.{get_or-take, length-take-le}
use Rattle.std.proofs.lemmas.List.Folds.{list_all_more}
use Rattle.mask_certificate.proofs.Indices.{index_done, space_here, space_behind, index_ends, index_is_long}
use Rattle.mask_certificate.proofs.reading.index_in_front.Goals as goal
use Rattle.mask_certificate.proofs.reading.index_in_front.Goals.{then-place-gt1, else-place-gt1, then-place-eq-MOST_INDEX_DIGITS-via-then-place-eq-MOST_INDEX_DIGITS, then-place-eq-MOST_INDEX_DIGITS-via-else-place-eq-MOST_INDEX_DIGITS+then-not-is_ascii_digit}

pub returns-then-byte-eq32-clause-found : goal.returns-then-byte-eq32-clause-found
returns-then-byte-eq32-clause-found c =
    let text = c.args.text.now in
    let k = c.loop-place.place in
    let ds = take k text in
    let long : length ds ≡ k = length-take-le k text (omega arith) in
    let no_zero : get_or ds 0 0 ≡ 48 → 1 < length ds → ⊥ = λ zero more. elim c.if-place-gt1.branch [
      | then-place-gt1 w ↦ absurd (true≢false (sym (eq-eqb (get_or text 0 0) 48 (sym (get_or-take k text 0 0 (omega arith)) ∙ zero)) ∙ sym w.value-is ∙ c.if-text-eq48.false))
      | else-place-gt1 w ↦ absurd (omega (arith, w.if-place-gt1.false, more, long))
    ] in (
      space_here text k (omega arith) c.loop-place.invariant.digits c.loop-place-test.true c.if-byte-eq32.true,
      index_done ds (omega arith) (omega arith) no_zero c.loop-place.invariant.digits ∙ ap (λ (n : ℕ). Some n) (sym c.loop-place.invariant.value),
    )

pub returns-then-place-eq-MOST_INDEX_DIGITS-clause-none : goal.returns-then-place-eq-MOST_INDEX_DIGITS-clause-none
returns-then-place-eq-MOST_INDEX_DIGITS-clause-none c = elim c.then-place-eq-MOST_INDEX_DIGITS.branch [
  | then-place-eq-MOST_INDEX_DIGITS-via-then-place-eq-MOST_INDEX_DIGITS w ↦
      index_is_long c.args.text.now c.loop-place.place (omega arith) c.loop-place.invariant.digits w.if-place-eq-MOST_INDEX_DIGITS.true c.if-byte-eq32.false
  | then-place-eq-MOST_INDEX_DIGITS-via-else-place-eq-MOST_INDEX_DIGITS+then-not-is_ascii_digit w ↦
      index_ends c.args.text.now c.loop-place.place (omega arith) c.loop-place.invariant.digits c.loop-place-test.true (sym w.is_ascii_digit.ensures.value ∙ w.if-not-is_ascii_digit.true) c.if-byte-eq32.false
]

pub loop-place-preserved : goal.loop-place-preserved
loop-place-preserved c =
    let text = c.args.text.now in
    let k = c.loop-place.place in
    let passes : is_ascii_digit (get_or text k 0) ≡ true = sym c.is_ascii_digit.ensures.value ∙ c.if-not-is_ascii_digit.false in
    let value : c.loop-place.index * 10 + c.from.result ≡ digits_value 10 (take (k + 1) text) =
    (let next = digits_value_more 10 text k c.loop-place-test.true in
    let digit : c.from.result ≡ digit_value (get_or text k 0) = omega (arith, digit_value_digit (get_or text k 0) c.if-not-is_ascii_digit.ensures.cases, c.from.ensures, c.if-not-is_ascii_digit.ensures.cases) in
    omega (arith, next, digit, c.loop-place.invariant.value)) in
    let power : 10 ^ (k + 1) ≡ 10 ^ k * 10 = ap (λ n. 10 ^ n) (add-one k) ∙ pow-suc 10 k in
    record {
      digits = list_all_more is_ascii_digit text k 0 c.loop-place-test.true ∙ and_from _ _ c.loop-place.invariant.digits passes;
      value = value;
      few = omega arith;
      small = omega (arith, power, c.loop-place.invariant.small, c.if-not-is_ascii_digit.ensures.cases);
    }

pub returns-clause-none : goal.returns-clause-none
returns-clause-none c = λ space at.
    let text = c.args.text.now in
    let behind = space_behind text c.loop-place.place (omega arith) c.loop-place.invariant.digits space at in
    absurd (omega (arith, behind.0, behind.1))
