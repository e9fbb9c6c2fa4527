-- The members among the numbers below n + 1 are those below n, and n where it is one.
use Rattle.canonical_text.proofs.Imports.{◌≡◌, ◌++◌, ◌+◌, ◌∷◌, [], List, ℕ, Bool, true, false, refl, sym, ap, ◌∙◌, map, add-one, cond-true, cond-false, filter-append, map-append, has, numbers_below, commas, comma_unless, no_pieces, register_text, members}
use Rattle.std.proofs.Common.{filter, append-nil}
use Rattle.canonical_text.proofs.Commas.{one_more, pushed_is_not_nil}

abbrev pub texts_below : (set n : ℕ) → List (List ℕ)
texts_below set n = map register_text (filter (has set) (numbers_below n))

members_with : (set n : ℕ) → has set n ≡ true → texts_below set (n + 1) ≡ texts_below set n ++ register_text n ∷ []
members_with set n h =
    ap (texts_below set) (add-one n)
    ∙ ap (map register_text) (filter-append (has set) (numbers_below n) (n ∷ []) ∙ ap (λ (ys : List ℕ). filter (has set) (numbers_below n) ++ ys) (cond-true (has set n) (n ∷ []) [] h))
    ∙ map-append register_text (filter (has set) (numbers_below n)) (n ∷ [])

pub members_without : (set n : ℕ) → has set n ≡ false → texts_below set (n + 1) ≡ texts_below set n
members_without set n h =
    ap (texts_below set) (add-one n)
    ∙ ap (map register_text) (filter-append (has set) (numbers_below n) (n ∷ []) ∙ ap (λ (ys : List ℕ). filter (has set) (numbers_below n) ++ ys) (cond-false (has set n) (n ∷ []) [] h) ∙ append-nil (filter (has set) (numbers_below n)))

pub member_written : (before now after : List ℕ) (set n : ℕ) (is_first : Bool) → has set n ≡ true
    → is_first ≡ no_pieces (texts_below set n) → now ≡ before ++ commas (texts_below set n)
    → after ≡ now ++ (comma_unless is_first ++ register_text n)
    → after ≡ before ++ commas (texts_below set (n + 1))
member_written before now after set n is_first h nil is_now is_after =
    one_more before now after (register_text n) (texts_below set n) is_first nil is_now is_after
    ∙ ap (λ (t : List (List ℕ)). before ++ commas t) (sym (members_with set n h))

pub member_not_first : (set n : ℕ) → has set n ≡ true → false ≡ no_pieces (texts_below set (n + 1))
member_not_first set n h =
    pushed_is_not_nil (texts_below set n) (register_text n) ∙ ap no_pieces (sym (members_with set n h))

pub all_members : (set : ℕ) → texts_below set 34 ≡ map register_text (members set)
unfolding members
all_members set = refl
