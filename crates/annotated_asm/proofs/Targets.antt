-- The targets of a task are taken from the front, each with the comma after it.
use Rattle.std.proofs.Common.{◌≡◌, ℕ, List, [], ◌∷◌, ◌++◌, drop, refl, sym, ◌∙◌, ap, append_assoc}
use Rattle.program_tokens.specs.declared.span.TokenSpan.{TokenSpan}
use Rattle.annotated_asm.specs.declared.position.Stretch.{Stretch}
use Rattle.annotated_asm.specs.Sources.{token_stretch, target_stretches}

pub first_target : (n : ℕ) (first : TokenSpan) (others : List TokenSpan) → target_stretches n (first ∷ others) ≡ token_stretch n first ∷ target_stretches n (drop 1 others)
first_target n first [] = refl
first_target n first (comma ∷ rest) = refl

pub target_added : (n : ℕ) (front now all : List Stretch) (first : TokenSpan) (rest others next : List TokenSpan) → rest ≡ first ∷ others → next ≡ drop 1 others
    → now ≡ front ++ token_stretch n first ∷ [] → front ++ target_stretches n rest ≡ all → now ++ target_stretches n next ≡ all
target_added n front now all first rest others next is_rest is_next is_now so_far =
    ap (λ (xs : List Stretch). xs ++ target_stretches n next) is_now
    ∙ append_assoc front (token_stretch n first ∷ []) (target_stretches n next)
    ∙ ap (λ (xs : List TokenSpan). front ++ (token_stretch n first ∷ target_stretches n xs)) is_next
    ∙ ap (λ (xs : List Stretch). front ++ xs) (sym (first_target n first others))
    ∙ ap (λ (xs : List TokenSpan). front ++ target_stretches n xs) (sym is_rest)
    ∙ so_far
