-- One more operand after those that are written: a blank stands before the first, a comma before each other.
use Rattle.canonical_text.proofs.Imports.{◌≡◌, ◌++◌, ◌∷◌, [], List, ℕ, Bool, refl, sym, ap, ◌∙◌, append_assoc, ◌<◌, ◌+◌, nat_eq, length, map, take, get_or, map_more, commas, no_pieces, spelled, before_operand}
use Rattle.canonical_text.proofs.Commas.{commas_more, none_so_far}

spelled_push : (name : List ℕ) (pieces : List (List ℕ)) (piece : List ℕ)
    → spelled name (pieces ++ piece ∷ []) ≡ spelled name pieces ++ (before_operand (no_pieces pieces) ++ piece)
spelled_push name [] piece = refl
spelled_push name (x ∷ xs) piece =
    ap (λ (t : List ℕ). name ++ (32 ∷ t)) (commas_more x xs piece) ∙ sym (append_assoc name (32 ∷ commas (x ∷ xs)) (44 ∷ piece))

pub one_more_operand : {X : Type 0} (f : X → List ℕ) (name : List ℕ) (xs : List X) (i : ℕ) (d : X) (before now after : List ℕ) → i < length xs
    → now ≡ before ++ spelled name (map f (take i xs)) → after ≡ now ++ (before_operand (nat_eq i 0) ++ f (get_or xs i d))
    → after ≡ before ++ spelled name (map f (take (i + 1) xs))
one_more_operand f name xs i d before now after h is_now is_after =
    is_after ∙ ap (λ (t : List ℕ). t ++ (before_operand (nat_eq i 0) ++ f (get_or xs i d))) is_now
    ∙ append_assoc before (spelled name (map f (take i xs))) (before_operand (nat_eq i 0) ++ f (get_or xs i d))
    ∙ ap (λ (first : Bool). before ++ (spelled name (map f (take i xs)) ++ (before_operand first ++ f (get_or xs i d)))) (none_so_far f xs i h)
    ∙ ap (λ (t : List ℕ). before ++ t) (sym (spelled_push name (map f (take i xs)) (f (get_or xs i d))))
    ∙ ap (λ (pieces : List (List ℕ)). before ++ spelled name pieces) (sym (map_more f xs i d h))
