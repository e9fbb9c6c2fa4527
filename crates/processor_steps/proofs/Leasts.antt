-- The least register of a set that lacks something is the least member of the set of those.
use Rattle.std.proofs.Common.{◌≡◌, ℕ, zero, suc, ◌+◌, ◌<◌, ◌≤◌, inl, inr, Bool, true, false, cond, not, ◌&&◌, List, ◌∷◌, Option, Some, None, refl, sym, ap, ◌∙◌, arith, true≢false}
use Rattle.std.specs.Prelude.{is_some, is_none, IfSome, IfNone}
use Rattle.std.specs.List.{find, filter, range_with_len}
use Rattle.std.proofs.lemmas.Bool.{cases_eq}
use Rattle.mips_instructions.specs.Words.{has}
use Rattle.machine_model.specs.Refusals.{least}

pub not_some : (o : Option ℕ) → not (is_some o) ≡ is_none o
not_some None = refl
not_some (Some x) = refl

skip : (b : Bool) (x : ℕ) (o : Option ℕ) → b ≡ false → cond b (Some x) o ≡ o
skip true x o e = absurd (true≢false e)
skip false x o e = refl

here : (b : Bool) (x : ℕ) (o : Option ℕ) → b ≡ true → cond b (Some x) o ≡ Some x
here true x o e = refl
here false x o e = absurd (true≢false (sym e))

module _ (set lacks : ℕ → Bool) where
  one : (b : Bool) (x : ℕ) (xs : List ℕ) → find lacks (cond b (x ∷ xs) xs) ≡ cond (b && lacks x) (Some x) (find lacks xs)
  one true x xs = refl
  one false x xs = refl

  nothing_from : (n from : ℕ) → ((s : ℕ) → (set s && lacks s) ≡ false) → find lacks (filter set (range_with_len from n)) ≡ None
  nothing_from zero from none = refl
  nothing_from (suc n) from none =
      one (set from) from (filter set (range_with_len (from + 1) n))
      ∙ skip (set from && lacks from) from (find lacks (filter set (range_with_len (from + 1) n))) (none from)
      ∙ nothing_from n (from + 1) none

  least_from : (n from r : ℕ) → from ≤ r → r < from + n → (set r && lacks r) ≡ true → ((s : ℕ) → s < r → (set s && lacks s) ≡ false) → find lacks (filter set (range_with_len from n)) ≡ Some r
  least_from zero from r low high member less = absurd (omega arith)
  least_from (suc n) from r low high member less =
      one (set from) from (filter set (range_with_len (from + 1) n))
      ∙ (elim (cases_eq from r) [
        | inl same ↦ here (set from && lacks from) from (find lacks (filter set (range_with_len (from + 1) n))) (ap (λ (x : ℕ). set x && lacks x) same ∙ member) ∙ ap Some same
        | inr other ↦ skip (set from && lacks from) from (find lacks (filter set (range_with_len (from + 1) n))) (less from (omega arith)) ∙ least_from n (from + 1) r (omega arith) (omega arith) member less
      ])

  pub least_is : (both : ℕ) → ((r : ℕ) → has both r ≡ (set r && lacks r)) → (o : Option ℕ) → IfSome o (λ r. (has both r ≡ true) × (0 ≤ r)) → IfSome o (λ r. (s : ℕ) → 0 ≤ s → s < r → has both s ≡ false) → IfNone o ((s : ℕ) → 0 ≤ s → has both s ≡ false) → IfSome o (λ r. r < 34) → o ≡ least set lacks
  unfolding least
  least_is both same None member less none below = sym (nothing_from 34 0 (λ s. sym (same s) ∙ none s (omega arith)))
  least_is both same (Some r) member less none below =
      sym (least_from 34 0 r (omega arith) (omega arith) (sym (same r) ∙ member.0) (λ s lt. sym (same s) ∙ less s (omega arith) lt))
