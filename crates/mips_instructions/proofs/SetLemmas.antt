-- Sets as numbers: what the bit operations do to membership, one bit at a time.
use Rattle.std.specs.Prelude.{◌≡◌, ℕ, zero, suc, ◌-◌, ◌*◌, ◌%◌, ◌^◌, ◌<◌, ◌≤◌, Bool, true, false, not, ◌&&◌, ◌||◌, ◌==◌, bit_and, bit_or, ◌↔◌, IsTrue}
use Rattle.std.specs.Int.{bit_at, bit_not, w64}
use Rattle.std.proofs.Common.{refl, sym, ap, ◌∙◌, inl, inr, subst, arith, max, min}
use Rattle.std.proofs.lemmas.Bool.{eqb-true, eq-eqb, ne_eqb, cases_eq, cases_lt, false≢true}
use Rattle.std.proofs.Math.Pow.{pow-lt}
use Rattle.std.proofs.lemmas.Nat.Bits.{bit_at_and, bit_at_or, bit_at_not, bit_at_set_same, bit_at_set_other, bit_at_above, bit_at-lt, bit_at-zero, same_from_bits}
use Rattle.mips_instructions.specs.Words.{has}

either_bit : (x y : ℕ) → x < 2 → y < 2 → (max x y == 1) ≡ (x == 1 || y == 1)
either_bit zero zero _ _ = refl
either_bit zero (suc zero) _ _ = refl
either_bit (suc zero) zero _ _ = refl
either_bit (suc zero) (suc zero) _ _ = refl
either_bit (suc (suc x)) y p q = absurd (omega arith)
either_bit zero (suc (suc y)) p q = absurd (omega arith)
either_bit (suc zero) (suc (suc y)) p q = absurd (omega arith)

both_bits : (x y : ℕ) → x < 2 → y < 2 → (min x y == 1) ≡ (x == 1 && y == 1)
both_bits zero zero _ _ = refl
both_bits zero (suc zero) _ _ = refl
both_bits (suc zero) zero _ _ = refl
both_bits (suc zero) (suc zero) _ _ = refl
both_bits (suc (suc x)) y p q = absurd (omega arith)
both_bits zero (suc (suc y)) p q = absurd (omega arith)
both_bits (suc zero) (suc (suc y)) p q = absurd (omega arith)

other_bit : (y : ℕ) → y < 2 → (1 - y == 1) ≡ not (y == 1)
other_bit zero _ = refl
other_bit (suc zero) _ = refl
other_bit (suc (suc y)) p = absurd (omega arith)

pub has-union : (a b r : ℕ) → has (bit_or a b) r ≡ (has a r || has b r)
has-union a b r =
    ap (λ (x : ℕ). x == 1) (bit_at_or a b r) ∙ either_bit (bit_at a r) (bit_at b r) (bit_at-lt a r) (bit_at-lt b r)

pub has-common : (a b r : ℕ) → has (bit_and a b) r ≡ (has a r && has b r)
has-common a b r =
    ap (λ (x : ℕ). x == 1) (bit_at_and a b r) ∙ both_bits (bit_at a r) (bit_at b r) (bit_at-lt a r) (bit_at-lt b r)

-- a set has no member that is no register
pub has-above : (a r : ℕ) → a < 2 ^ 34 → 34 ≤ r → has a r ≡ false
has-above a r small above = ap (λ (x : ℕ). x == 1) (bit_at_above a 34 r small above)

has-not : (b r : ℕ) → b < 2 ^ 34 → r < 34 → has (bit_not w64 b) r ≡ not (has b r)
has-not b r small below =
    ap (λ (x : ℕ). x == 1) (bit_at_not w64 b r (omega arith) (omega arith)) ∙ other_bit (bit_at b r) (bit_at-lt b r)

pub has-minus : (a b r : ℕ) → a < 2 ^ 34 → b < 2 ^ 34 → has (bit_and a (bit_not w64 b)) r ≡ (has a r && not (has b r))
has-minus a b r small small' =
    elim (cases_lt r 34) [
      | inl below ↦
          has-common a (bit_not w64 b) r ∙ ap (λ (x : Bool). has a r && x) (has-not b r small' below)
      | inr above ↦
          has-common a (bit_not w64 b) r ∙ (ap (λ (x : Bool). x && has (bit_not w64 b) r) (has-above a r small above) ∙ sym (ap (λ (x : Bool). x && not (has b r)) (has-above a r small above)))
    ]

or_true : (x y : Bool) → y ≡ true → (x || y) ≡ true
or_true true y p = refl
or_true false y p = p

or_false : (x y : Bool) → y ≡ false → (x || y) ≡ x
or_false true y p = refl
or_false false y p = p

has-insert_same : (a k r : ℕ) → k < 64 → r ≡ k → has (bit_or a (1 * 2 ^ k % 2 ^ 64)) r ≡ (has a r || k == r)
has-insert_same a k r below same =
    subst (λ (x : ℕ). has (bit_or a (1 * 2 ^ k % 2 ^ 64)) x ≡ (has a x || k == x)) (sym same)
    (ap (λ (x : ℕ). x == 1) (bit_at_set_same w64 a k below) ∙ sym (or_true (has a k) (k == k) (eq-eqb k k refl)))

has-insert_other : (a k r : ℕ) → k < 64 → (r ≡ k → ⊥) → has (bit_or a (1 * 2 ^ k % 2 ^ 64)) r ≡ (has a r || k == r)
has-insert_other a k r below other =
    ap (λ (x : ℕ). x == 1) (bit_at_set_other w64 a k below r other)
    ∙ sym (or_false (has a r) (k == r) (ne_eqb k r (λ e. other (sym e))))

pub has-insert : (a k r : ℕ) → k < 64 → has (bit_or a (1 * 2 ^ k % 2 ^ 64)) r ≡ (has a r || k == r)
has-insert a k r below =
    elim (cases_eq r k) [ inl same ↦ has-insert_same a k r below same | inr other ↦ has-insert_other a k r below other ]

-- a bit is 1 or 0, so it is known by its test
same_bit : (x y : ℕ) → x < 2 → y < 2 → (x == 1) ≡ (y == 1) → x ≡ y
same_bit zero zero _ _ e = refl
same_bit (suc zero) (suc zero) _ _ e = refl
same_bit zero (suc zero) _ _ e = cc
same_bit (suc zero) zero _ _ e = cc
same_bit (suc (suc x)) y p q e = absurd (omega arith)
same_bit zero (suc (suc y)) p q e = absurd (omega arith)
same_bit (suc zero) (suc (suc y)) p q e = absurd (omega arith)

pub same_set : (a b : ℕ) → ((r : ℕ) → has a r ≡ has b r) → a ≡ b
same_set a b same = same_from_bits a b (λ r. same_bit (bit_at a r) (bit_at b r) (bit_at-lt a r) (bit_at-lt b r) (same r))

pub same_registers : (a b : ℕ) → a < 2 ^ 34 → b < 2 ^ 34 → ((r : ℕ) → r < 34 → has a r ≡ has b r) → a ≡ b
same_registers a b small small' same =
    same_set a b (λ r. elim (cases_lt r 34) [ inl below ↦ same r below | inr above ↦ has-above a r small above ∙ sym (has-above b r small' above) ])

pub has-empty : (r : ℕ) → has 0 r ≡ false
has-empty r = ap (λ (x : ℕ). x == 1) (bit_at-zero r)

implies : (x y : Bool) → ((x && y) ≡ x) ↔ (x ≡ true → y ≡ true)
implies true true = (λ _ _. refl, λ _. refl)
implies true false = (λ e _. e, λ f. f refl)
implies false y = (λ _ e. absurd (false≢true e), λ _. refl)

-- the common members are all of a's exactly where each member of a is one of b
pub subset_iff : (a b : ℕ) → (bit_and a b ≡ a) ↔ ((r : ℕ) → has a r ≡ true → has b r ≡ true)
subset_iff a b = (
  λ e r. (implies (has a r) (has b r)).0 (sym (has-common a b r) ∙ ap (λ (x : ℕ). has x r) e),
  λ f. same_set (bit_and a b) a (λ r. has-common a b r ∙ (implies (has a r) (has b r)).1 (f r)),
)

pub empty_iff : (a : ℕ) → (a ≡ 0) ↔ ((r : ℕ) → has a r ≡ false)
empty_iff a = (λ e r. ap (λ (x : ℕ). has x r) e ∙ has-empty r, λ f. same_set a 0 (λ r. f r ∙ sym (has-empty r)))

pub one_bit-lt : (k : ℕ) → k < 34 → 1 * 2 ^ k % 2 ^ 64 < 2 ^ 34
one_bit-lt k below = let h : 2 ^ k < 2 ^ 34 = pow-lt below in omega arith

-- the tests of the code are on the number, which equals the value of the set
pub subset_test : (a b s t : ℕ) → a ≡ s → b ≡ t → IsTrue (bit_and a b == a) ↔ ((r : ℕ) → has s r ≡ true → has t r ≡ true)
subset_test a b s t e f =
    subst (λ (x : ℕ). IsTrue (bit_and a b == a) ↔ ((r : ℕ) → has x r ≡ true → has t r ≡ true)) e
    (subst (λ (x : ℕ). IsTrue (bit_and a b == a) ↔ ((r : ℕ) → has a r ≡ true → has x r ≡ true)) f
    (λ h. (subset_iff a b).0 (eqb-true _ _ h), λ h. eq-eqb _ _ ((subset_iff a b).1 h)))

pub empty_test : (a s : ℕ) → a ≡ s → IsTrue (a == 0) ↔ ((r : ℕ) → has s r ≡ false)
empty_test a s e =
    subst (λ (x : ℕ). IsTrue (a == 0) ↔ ((r : ℕ) → has x r ≡ false)) e
    (λ h. (empty_iff a).0 (eqb-true _ _ h), λ h. eq-eqb _ _ ((empty_iff a).1 h))
