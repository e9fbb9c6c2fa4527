-- Bytes are cut at the first place that passes a test, and are whole where there is none.
use Rattle.std.proofs.Common.{◌≡◌, ℕ, ◌+◌, ◌-◌, ◌≤◌, Bool, ltb, List, [], ◌∷◌, length, take, drop, Option, Some, None, refl, sym, ◌∙◌, ap, arith}
use Rattle.std.specs.Prelude.{count_by}
use Rattle.std.specs.List.{slice_split, before_first, after_first, position, position_or_len}
use Rattle.std.proofs.lemmas.Bool.{cond_both, ltb-true, ltb-false}
use Rattle.std.proofs.lemmas.List.{take_rest}
use Rattle.std.proofs.lemmas.List.Sums.{fails_before_first}
use Rattle.std.proofs.lemmas.List.Splits.{slice_split_first, slice_split_none, length-slice_split}
use Rattle.std.proofs.lemmas.Option.{cond_some}

module _ (p : ℕ → Bool) where
  pub split_at : (xs : List ℕ) (k : ℕ) → position p xs ≡ Some k → slice_split p xs ≡ take k xs ∷ slice_split p (take (length xs - (k + 1)) (drop (k + 1) xs))
  split_at xs k e =
      let found = cond_some (ltb (position_or_len p xs) (length xs)) (position_or_len p xs) k e in
      let before : before_first p xs ≡ take k xs = ap (λ n. take n xs) found.1 in
      let after : after_first p xs ≡ take (length xs - (k + 1)) (drop (k + 1) xs) = ap (λ n. drop (n + 1) xs) found.1 ∙ sym (take_rest xs (k + 1)) in
      slice_split_first p xs 0 (ltb-true _ _ found.0)
      ∙ ap (λ (first : List ℕ). first ∷ slice_split p (after_first p xs)) before
      ∙ ap (λ (rest : List ℕ). take k xs ∷ slice_split p rest) after

  pub split_nowhere : (xs : List ℕ) → position p xs ≡ None → slice_split p xs ≡ xs ∷ []
  split_nowhere xs e =
      let place = position_or_len p xs in
      let behind : length xs ≤ place =
      cond_both (ltb place (length xs)) (Some place) None (λ (o : Option ℕ). o ≡ None → length xs ≤ place) (λ yes some. absurd cc) (λ no none. ltb-false _ _ no) e in
      slice_split_none p xs (λ k d less. fails_before_first p xs k d (omega arith))

  -- there is always a first part
  first_part : (parts : List (List ℕ)) (n : ℕ) → length parts ≡ n + 1 → (first : List ℕ) × (rest : List (List ℕ)) × (parts ≡ first ∷ rest)
  first_part [] n e = absurd (omega arith)
  first_part (first ∷ rest) n e = (first, rest, refl)

  pub split_cons : (xs : List ℕ) → (first : List ℕ) × (rest : List (List ℕ)) × (slice_split p xs ≡ first ∷ rest)
  split_cons xs = first_part (slice_split p xs) (count_by p xs) (length-slice_split p xs)
