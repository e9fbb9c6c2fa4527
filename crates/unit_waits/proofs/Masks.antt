-- A set of registers is the number with its bits.
use Rattle.std.proofs.Common.{◌≡◌, ℕ, zero, suc, ◌^◌, ◌-◌, ◌%◌, ◌<◌, Bool, true, false, cond, ◌==◌, inl, inr, refl, sym, ap, ◌∙◌, arith, pow-suc}
use Rattle.std.specs.Int.{bit_at}
use Rattle.std.specs.Prelude.{is_some}
use Rattle.std.proofs.lemmas.Bool.{cases_lt}
use Rattle.std.proofs.lemmas.Nat.{mul-add-lt}
use Rattle.std.proofs.lemmas.Nat.Bits.{bit_at_cat_low, bit_at_cat_high, bit_at_lowest, bit_at-lt, same_from_bits_below}
use Rattle.mips_instructions.specs.Words.{has}
use Rattle.machine_model.specs.Machine.{Words}
use Rattle.unit_waits.specs.Signals.{bits_below, mask_of}

abbrev one_if : Bool → ℕ
one_if b = cond b 1 0

one_bit : (b : Bool) → one_if b < 2
one_bit true = omega arith
one_bit false = omega arith

lowest_of : (b : Bool) → one_if b % 2 ≡ one_if b
lowest_of true = refl
lowest_of false = refl

-- a bit is 1 or 0, so it is known by its test
bit_is : (x : ℕ) (b : Bool) → x < 2 → (x == 1) ≡ b → x ≡ one_if b
bit_is zero b small is = ap one_if is
bit_is (suc zero) b small is = ap one_if is
bit_is (suc (suc x)) b small is = absurd (omega (arith, small))

module _ (test : ℕ → Bool) where
  below : (k : ℕ) → bits_below test k < 2 ^ k
  below zero = omega arith
  below (suc k) =
      let wide = mul-add-lt (one_if (test k)) (2 ^ k) (bits_below test k) 2 (one_bit (test k)) (below k) in
      let twice = pow-suc 2 k in
      omega (arith, wide, twice)

  top_bit : (k i : ℕ) → i ≡ k → bit_at (bits_below test (suc k)) i ≡ one_if (test i)
  top_bit k i is =
      let high = bit_at_cat_high (one_if (test k)) k (bits_below test k) i (below k) (omega (arith, is)) in
      let none : i - k ≡ 0 = omega (arith, is) in
      high ∙ ap (λ (j : ℕ). bit_at (one_if (test k)) j) none ∙ bit_at_lowest (one_if (test k)) ∙ lowest_of (test k) ∙ ap (λ (j : ℕ). one_if (test j)) (sym is)

  bit_of : (k i : ℕ) → i < k → bit_at (bits_below test k) i ≡ one_if (test i)
  bit_of zero i within = absurd (omega (arith, within))
  bit_of (suc k) i within =
      elim (cases_lt i k) [
        | inl lower ↦ bit_at_cat_low (one_if (test k)) k (bits_below test k) i lower ∙ bit_of k i lower
        | inr higher ↦ top_bit k i (omega (arith, within, higher))
      ]

  pub bits_are : (n : ℕ) → n < 2 ^ 34 → ((r : ℕ) → r < 34 → has n r ≡ test r) → n ≡ bits_below test 34
  bits_are n small same =
      same_from_bits_below 34 n (bits_below test 34) small (below 34)
      (λ r within. bit_is (bit_at n r) (test r) (bit_at-lt n r) (same r within) ∙ sym (bit_of 34 r within))

-- a set of the registers that have a word
pub mask_is : (n : ℕ) (words : Words) → n < 2 ^ 34 → ((r : ℕ) → r < 34 → has n r ≡ is_some (words r)) → n ≡ mask_of words
unfolding mask_of
mask_is n words small same = bits_are (λ r. is_some (words r)) n small same
