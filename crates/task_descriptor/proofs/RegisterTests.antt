-- A test of the numbers below n, one after another, is a test of each.
use Rattle.std.proofs.Common.{◌^◌, nat_eq, not, ◌≡◌, ◌<◌, ◌≤◌, ◌++◌, ℕ, zero, suc, Bool, true, false, ◌||◌, List, [], ◌∷◌, refl, arith, ap, sym, ◌∙◌, subst, inl, inr, ◌⊎◌}
use Rattle.std.specs.List.{list_any}
use Rattle.std.proofs.lemmas.List.Folds.{list_any-append}
use Rattle.std.specs.Int.{bit_at}
use Rattle.std.proofs.lemmas.Bool.{cases_lt, cases_eq, cases_Bool, eqb-true, eqb-false, false_from_ne_true}
use Rattle.std.proofs.lemmas.Nat.Bits.{bit_at-lt, bit_at-zero, bit_at_above, same_from_bits_below}
use Rattle.mips_instructions.specs.Words.{has}
use Rattle.task_descriptor.specs.Listing.{numbers_below}

either_false : (a b : Bool) → a ≡ false → b ≡ false → (a || (b || false)) ≡ false
either_false false false g h = refl
either_false false true g h = absurd (cc)
either_false true b g h = absurd (cc)

both_false : (a b : Bool) → (a || (b || false)) ≡ false → (a ≡ false) × (b ≡ false)
both_false false false h = (refl, refl)
both_false false true h = absurd (cc)
both_false true b h = absurd (cc)

last_or_before : (r n : ℕ) → r < suc n → (r ≡ n) ⊎ (r < n)
last_or_before r n h = elim (cases_lt r n) [ inl less ↦ inr less | inr more ↦ inl (omega arith) ]

pub none_below : (test : ℕ → Bool) (n r : ℕ) → list_any test (numbers_below n) ≡ false → r < n → test r ≡ false
none_below test zero r h within = absurd (omega arith)
none_below test (suc n) r h within =
    let parts = both_false (list_any test (numbers_below n)) (test n) (sym (list_any-append test (numbers_below n) (n ∷ [])) ∙ h) in
    elim (last_or_before r n within) [
      | inl same ↦ ap test same ∙ parts.1
      | inr less ↦ none_below test n r parts.0 less
    ]

pub all_below : (test : ℕ → Bool) (n : ℕ) → ((r : ℕ) → r < n → test r ≡ false) → list_any test (numbers_below n) ≡ false
all_below test zero h = refl
all_below test (suc n) h =
    list_any-append test (numbers_below n) (n ∷ [])
    ∙ either_false (list_any test (numbers_below n)) (test n) (all_below test n (λ r less. h r (omega arith))) (h n (omega arith))

-- a bit that is not 1 is 0
zero_bit : (set r : ℕ) → has set r ≡ false → bit_at set r ≡ bit_at 0 r
zero_bit set r h = let apart = eqb-false (bit_at set r) 1 h in let less = bit_at-lt set r in let none = bit_at-zero r in omega arith

not_zero : (set : ℕ) → (set ≡ 0 → ⊥) → not (nat_eq set 0) ≡ true
not_zero set apart = ap not (false_from_ne_true (nat_eq set 0) (λ same. apart (eqb-true set 0 same)))

some_member : (set : ℕ) → set < 2 ^ 34 → (set ≡ 0 → ⊥) → list_any (has set) (numbers_below 34) ≡ true
some_member set small apart =
    elim (cases_Bool (list_any (has set) (numbers_below 34))) [
      | inl found ↦ found
      | inr none ↦ absurd (apart (same_from_bits_below 34 set 0 small (omega arith) (λ r less. zero_bit set r (none_below (has set) 34 r none less))))
    ]

-- a set is not the number 0 exactly where it has a register
pub member_below : (set : ℕ) → set < 2 ^ 34 → not (nat_eq set 0) ≡ list_any (has set) (numbers_below 34)
member_below set small =
    elim (cases_eq set 0) [
      | inl none ↦ subst (λ (n : ℕ). not (nat_eq n 0) ≡ list_any (has n) (numbers_below 34)) (sym none) refl
      | inr apart ↦ not_zero set apart ∙ sym (some_member set small apart)
    ]

-- a set below 2 ^ 34 has registers alone
pub members_below : (set : ℕ) → set < 2 ^ 34 → (r : ℕ) → has set r ≡ true → r < 34
members_below set small r member =
    elim (cases_lt r 34) [
      | inl below ↦ below
      | inr above ↦ let none = bit_at_above set 34 r small above in let one = eqb-true (bit_at set r) 1 member in absurd (omega arith)
    ]
