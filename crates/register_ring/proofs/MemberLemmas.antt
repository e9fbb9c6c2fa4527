-- The least member of a set from a register on: the lowest bit of what is left of it.
use Rattle.std.specs.Prelude.{◌≡◌, ℕ, ◌+◌, ◌-◌, ◌/◌, ◌%◌, ◌^◌, ◌<◌, ◌≤◌, true, false, ◌==◌, ◌↔◌, Option, Some, None, IsSome, IfSome, IfNone}
use Rattle.std.specs.Int.{bit_at, trailing_zeros, w64}
use Rattle.std.proofs.Common.{refl, sym, ap, ◌∙◌, subst, arith, inl, inr}
use Rattle.std.proofs.Math.Nat.{mod-lt, div-le_self}
use Rattle.std.proofs.lemmas.Nat.{div-add-mod', pow_pos}
use Rattle.std.proofs.lemmas.Bool.{cases_lt, false≢true}
use Rattle.std.proofs.lemmas.Nat.Bits.{bit_at_cat_high, bit_at-zero, bit_at-trailing_zeros, bit_at_above}
use Rattle.mips_instructions.specs.Words.{has}

shifted : (n k i : ℕ) → k ≤ i → bit_at n i ≡ bit_at (n / 2 ^ k) (i - k)
shifted n k i h =
    ap (λ (m : ℕ). bit_at m i) (sym (div-add-mod' n (2 ^ k))) ∙ bit_at_cat_high (n / 2 ^ k) k (n % 2 ^ k) i (mod-lt n (pow_pos k)) h

pub none_from : (set from s : ℕ) → set / 2 ^ from ≡ 0 → from ≤ s → has set s ≡ false
none_from set from s e h =
    let bit : bit_at set s ≡ 0 = shifted set from s h ∙ (ap (λ (m : ℕ). bit_at m (s - from)) e ∙ bit_at-zero (s - from)) in
    ap (λ (bit : ℕ). bit == 1) bit

pub record IsNext (set from r : ℕ) : Type 0 where
  pub member : has set r ≡ true
  pub least : (s : ℕ) → from ≤ s → s < r → has set s ≡ false
  pub within : r < 34

pub next_is : (set from bits : ℕ) → set < 2 ^ 34 → bits ≡ set / 2 ^ from → 0 < bits → IsNext set from (from + trailing_zeros w64 bits)
next_is set from bits small is some =
    let less : bits ≤ set = subst (λ (b : ℕ). b ≤ set) (sym is) (div-le_self set (2 ^ from)) in
    let below : bits < 2 ^ 64 = omega arith in
    let lowest = bit_at-trailing_zeros w64 bits some below in
    let zeros = trailing_zeros w64 bits in
    let at : (s : ℕ) → from ≤ s → bit_at set s ≡ bit_at bits (s - from) =
    λ s h. shifted set from s h ∙ ap (λ (m : ℕ). bit_at m (s - from)) (sym is) in
    let back : from + zeros - from ≡ zeros = omega arith in
    let after : from ≤ from + zeros = omega arith in
    let one : bit_at set (from + zeros) ≡ 1 =
    at (from + zeros) after ∙ (ap (λ (i : ℕ). bit_at bits i) back ∙ lowest.1) in
    record {
      member = ap (λ (bit : ℕ). bit == 1) one;
      least = λ s h less'.
          let under : s - from < zeros = omega arith in
          ap (λ (bit : ℕ). bit == 1) (at s h ∙ lowest.2 (s - from) under);
      within = elim (cases_lt (from + zeros) 34) [
        | inl inside ↦ inside
        | inr above ↦ let none = bit_at_above set 34 (from + zeros) small above in absurd (omega arith)
      ];
    }

-- what the call says of its answer
pub record Answers (set from : ℕ) (answer : Option ℕ) : Type 0 where
  pub member : IfSome answer (λ r. (has set r ≡ true) × (from ≤ r))
  pub least : IfSome answer (λ r. (s : ℕ) → from ≤ s → s < r → has set s ≡ false)
  pub range : IfSome answer (λ r. r < 34)
  pub none : IfNone answer ((s : ℕ) → from ≤ s → has set s ≡ false)

pub answers_next : (answer : Option ℕ) (set from r : ℕ) → from ≤ r → IsNext set from r → IsSome answer ↔ (r < 34) → IfSome answer (λ x. x ≡ r) → Answers set from answer
answers_next None set from r above next iff is = absurd (false≢true (iff.1 next.within))
answers_next (Some x) set from r above next iff is =
    let at : Answers set from (Some r) = record { member = (next.member, above); least = next.least; range = next.within; none = tt } in
    subst (λ (y : ℕ). Answers set from (Some y)) (sym is) at

pub answers_of : (answer : Option ℕ) (set from bits : ℕ) → bits ≡ set → bits < 2 ^ 34 → (bits / 2 ^ from ≡ 0 → ⊥) → IsSome answer ↔ (from + trailing_zeros w64 (bits / 2 ^ from) < 34) → IfSome answer (λ x. x ≡ from + trailing_zeros w64 (bits / 2 ^ from)) → Answers set from answer
answers_of answer set from bits same small some iff is =
    let rest = bits / 2 ^ from in
    let next : IsNext bits from (from + trailing_zeros w64 rest) = next_is bits from rest small refl (omega arith) in
    let above : from ≤ from + trailing_zeros w64 rest = omega arith in
    subst (λ (x : ℕ). Answers x from answer) same
    (answers_next answer bits from (from + trailing_zeros w64 rest) above next iff is)
