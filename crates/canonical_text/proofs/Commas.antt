-- One more piece after those that are joined: a comma stands before it unless it is the first.
use Rattle.canonical_text.proofs.Imports.{◌≡◌, ◌++◌, ◌∷◌, [], List, ℕ, Bool, true, false, refl, sym, ap, ◌∙◌, append_assoc, ◌<◌, ◌+◌, zero, suc, nat_eq, length, map, take, get_or, arith, map_more, eqb-true, false_from_ne_true, commas, comma_unless, no_pieces, listed}
use Rattle.std.proofs.Common.{append-nil}

pub commas_more : (x : List ℕ) (xs : List (List ℕ)) (y : List ℕ) → commas (x ∷ (xs ++ y ∷ [])) ≡ commas (x ∷ xs) ++ (44 ∷ y)
commas_more x [] y = refl
commas_more x (z ∷ zs) y =
    ap (λ (rest : List ℕ). x ++ (44 ∷ rest)) (commas_more z zs y)
    ∙ sym (append_assoc x (44 ∷ commas (z ∷ zs)) (44 ∷ y))

pub commas_push : (pieces : List (List ℕ)) (piece : List ℕ)
    → commas (pieces ++ piece ∷ []) ≡ commas pieces ++ (comma_unless (no_pieces pieces) ++ piece)
commas_push [] piece = refl
commas_push (x ∷ xs) piece = commas_more x xs piece

-- what is written after one more piece
pub one_more : (before now after piece : List ℕ) (pieces : List (List ℕ)) (is_first : Bool) → is_first ≡ no_pieces pieces
    → now ≡ before ++ commas pieces → after ≡ now ++ (comma_unless is_first ++ piece)
    → after ≡ before ++ commas (pieces ++ piece ∷ [])
one_more before now after piece pieces is_first nil is_now is_after =
    is_after ∙ ap (λ (t : List ℕ). t ++ (comma_unless is_first ++ piece)) is_now
    ∙ append_assoc before (commas pieces) (comma_unless is_first ++ piece)
    ∙ ap (λ (first : Bool). before ++ (commas pieces ++ (comma_unless first ++ piece))) nil
    ∙ ap (λ (t : List ℕ). before ++ t) (sym (commas_push pieces piece))

pub pushed_is_not_nil : (pieces : List (List ℕ)) (piece : List ℕ) → false ≡ no_pieces (pieces ++ piece ∷ [])
pushed_is_not_nil [] piece = refl
pushed_is_not_nil (x ∷ xs) piece = refl

eqb_false : (m n : ℕ) → (m ≡ n → ⊥) → nat_eq m n ≡ false
eqb_false m n apart = false_from_ne_true (nat_eq m n) (λ same. apart (eqb-true m n same))

-- a list of pieces, of which the first i are written, is empty so far exactly where i is 0
pub none_so_far : {X : Type 0} (f : X → List ℕ) (xs : List X) (i : ℕ) → i < length xs → nat_eq i 0 ≡ no_pieces (map f (take i xs))
none_so_far f [] i h = absurd (omega arith)
none_so_far f (x ∷ xs) zero h = refl
none_so_far f (x ∷ xs) (suc i) h = eqb_false (suc i) 0 (λ (e : suc i ≡ 0). omega arith)

pub one_more_of : {X : Type 0} (f : X → List ℕ) (xs : List X) (i : ℕ) (d : X) (before now after : List ℕ) → i < length xs
    → now ≡ before ++ commas (map f (take i xs)) → after ≡ now ++ (comma_unless (nat_eq i 0) ++ f (get_or xs i d))
    → after ≡ before ++ commas (map f (take (i + 1) xs))
one_more_of f xs i d before now after h is_now is_after =
    one_more before now after (f (get_or xs i d)) (map f (take i xs)) (nat_eq i 0) (none_so_far f xs i h) is_now is_after
    ∙ ap (λ (t : List (List ℕ)). before ++ commas t) (sym (map_more f xs i d h))

-- what a list in a descriptor is, by whether it has a piece
pub listed_some : (before now : List ℕ) (pieces : List (List ℕ)) → no_pieces pieces ≡ false → now ≡ before ++ commas pieces
    → now ≡ before ++ listed pieces
listed_some before now [] some is_now = absurd (cc)
listed_some before now (x ∷ xs) some is_now = is_now

pub listed_none : (before now after : List ℕ) (pieces : List (List ℕ)) → no_pieces pieces ≡ true → now ≡ before ++ commas pieces
    → after ≡ now ++ 45 ∷ [] → after ≡ before ++ listed pieces
listed_none before now after [] none is_now is_after =
    is_after ∙ ap (λ (t : List ℕ). t ++ 45 ∷ []) (is_now ∙ append-nil before)
listed_none before now after (x ∷ xs) none is_now is_after = absurd (cc)
