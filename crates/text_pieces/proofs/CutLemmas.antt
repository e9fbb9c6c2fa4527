-- One piece more at the end.
use Rattle.std.proofs.Common.{◌≡◌, ℕ, ◌≤◌, List, [], ◌∷◌, ◌++◌, length, take, refl, sym, ◌∙◌, ap, subst, inl, inr}
use Rattle.std.specs.List.{All}
use Rattle.std.proofs.lemmas.List.{append-nil, take_all}
use Rattle.std.proofs.lemmas.List.Elements.{All-head, All-tail}
use Rattle.std.proofs.lemmas.Grind.{flat_map-append}
use Rattle.text_pieces.specs.Pieces.{joined, IsLines, AreCut}

pub joined_last : (pieces : List (List ℕ)) (last : List ℕ) → joined (pieces ++ last ∷ []) ≡ joined pieces ++ last
joined_last pieces last =
    flat_map-append (λ (piece : List ℕ). piece) pieces (last ∷ []) ∙ ap (λ (bytes : List ℕ). joined pieces ++ bytes) (append-nil last)

-- whole lines, and one piece more, are cut behind LFs
pub cut_last : (pieces : List (List ℕ)) (last : List ℕ) → All IsLines pieces → AreCut (pieces ++ last ∷ [])
cut_last [] last whole = (inr refl, tt)
cut_last (piece ∷ pieces) last whole =
    (inl (All-head IsLines piece pieces whole), cut_last pieces last (All-tail IsLines piece pieces whole))

-- the same of the first n of the lines, where there are no more than n
pub cut_pushed : (pieces lines : List (List ℕ)) (last : List ℕ) (n : ℕ) → pieces ≡ take n lines → length lines ≤ n → All IsLines lines → AreCut (pieces ++ last ∷ [])
cut_pushed pieces lines last n same all whole =
    subst (λ (ps : List (List ℕ)). AreCut (ps ++ last ∷ [])) (sym (same ∙ take_all n lines all)) (cut_last lines last whole)
