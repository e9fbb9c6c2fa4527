-- Two lists of one length are the same where they are so place by place.
use Rattle.std.proofs.Common.{◌≡◌, ◌<◌, ◌≤◌, ℕ, ◌+◌, List, length, get_or, take, sym, ap, ◌∙◌, subst}
use Rattle.std.proofs.lemmas.List.{get_or_default, take_all, take_more_same}

module _ {X : Type 0} (xs ys : List X) (i : ℕ) (same_length : length xs ≡ length ys) where
  -- one place more
  pub same_more : (x y : X) → i < length xs → x ≡ get_or xs i x → y ≡ get_or ys i y → x ≡ y → take i xs ≡ take i ys → take (i + 1) xs ≡ take (i + 1) ys
  same_more x y within is_x is_y same before =
      take_more_same xs ys i x within (subst (λ (n : ℕ). i < n) same_length within) before
      (sym is_x ∙ same ∙ is_y ∙ ap (get_or ys i) (sym same))

  -- all places
  pub same_whole : length xs ≤ i → take i xs ≡ take i ys → xs ≡ ys
  same_whole beyond before =
      sym (take_all i xs beyond) ∙ before ∙ take_all i ys (subst (λ (n : ℕ). n ≤ i) same_length beyond)

-- one place that differs
pub same_at : {X : Type 0} (xs ys : List X) (i : ℕ) (x y : X) → x ≡ get_or xs i x → y ≡ get_or ys i y → i < length xs → xs ≡ ys → x ≡ y
same_at xs ys i x y is_x is_y within same =
    is_x ∙ ap (λ zs. get_or zs i x) same ∙ get_or_default ys i x y (subst (λ zs. i < length zs) same within) ∙ sym is_y
