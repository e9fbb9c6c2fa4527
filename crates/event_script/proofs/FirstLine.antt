-- The first LF of a text ends its first line.
use Rattle.std.proofs.Common.{◌≡◌, ℕ, List, ◌∷◌, refl, sym, ◌∙◌, ap, subst}
use Rattle.std.specs.List.{slice_split}
use Rattle.text_pieces.proofs.Splits.{split_cons}
use Rattle.event_script.specs.EventScript.{is_newline, without_empty_last, lines}

line_first : (line : List ℕ) (parts : List (List ℕ)) (first : List ℕ) (rest : List (List ℕ)) → parts ≡ first ∷ rest → without_empty_last (line ∷ parts) ≡ line ∷ without_empty_last parts
line_first line parts first rest e = subst (λ (q : List (List ℕ)). without_empty_last (line ∷ q) ≡ line ∷ without_empty_last q) (sym e) refl

-- a line that ends with LF, and the lines of what follows
pub lines_more : (text line rest : List ℕ) → slice_split is_newline text ≡ line ∷ slice_split is_newline rest → lines text ≡ line ∷ lines rest
lines_more text line rest e =
    let parts = split_cons is_newline rest in
    ap without_empty_last e ∙ line_first line (slice_split is_newline rest) parts.0 parts.1 parts.2
