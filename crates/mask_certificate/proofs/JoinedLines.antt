-- The lines of whole lines and of what follows them are those of both, since the LF at the end of the
-- whole lines ends a part of the text.
use Rattle.std.proofs.Common.{◌≡◌, ℕ, ◌-◌, Bool, true, false, cond, List, [], ◌∷◌, ◌++◌, length, map, slice_index, refl, sym, ◌∙◌, ap, arith}
use Rattle.std.specs.List.{slice_split, onto_first}
use Rattle.std.proofs.lemmas.List.{append_assoc, append-nil}
use Rattle.text_pieces.specs.Pieces.{IsLines}
use Rattle.mask_certificate.specs.declared.fault.MaskSpelling.{MaskSpelling}
use Rattle.mask_certificate.specs.CertificateReading.{is_newline, Judged, judged, lines_of, lines_in}
use Rattle.text_pieces.proofs.Splits.{split_cons}
use Rattle.mask_certificate.proofs.LineLemmas.{lines_cons}

-- ---- the parts between LFs

onto_append : (x : ℕ) (parts more first : _) (rest : List (List ℕ)) → parts ≡ first ∷ rest → onto_first x (parts ++ more) ≡ onto_first x parts ++ more
onto_append x parts more first rest e = ap (λ (ps : List (List ℕ)). onto_first x (ps ++ more)) e ∙ sym (ap (λ (ps : List (List ℕ)). onto_first x ps ++ more) e)

split_case : (b : Bool) (x : ℕ) (all parts more : List (List ℕ)) → all ≡ parts ++ more → onto_first x (parts ++ more) ≡ onto_first x parts ++ more
    → cond b ([] ∷ all) (onto_first x all) ≡ cond b ([] ∷ parts) (onto_first x parts) ++ more
split_case true x all parts more e onto = ap (λ (ps : List (List ℕ)). [] ∷ ps) e
split_case false x all parts more e onto = ap (onto_first x) e ∙ onto

split_at_line : (front rest : List ℕ) → slice_split is_newline (front ++ 10 ∷ rest) ≡ slice_split is_newline front ++ slice_split is_newline rest
split_at_line [] rest = refl
split_at_line (x ∷ front) rest =
    let parts = split_cons is_newline front in
    split_case (is_newline x) x (slice_split is_newline (front ++ 10 ∷ rest)) (slice_split is_newline front) (slice_split is_newline rest)
    (split_at_line front rest)
    (onto_append x (slice_split is_newline front) (slice_split is_newline rest) parts.0 parts.1 parts.2)

-- ---- the lines

append_cons : (parts more : List (List ℕ)) (first : List ℕ) (rest : List (List ℕ)) → more ≡ first ∷ rest
    → (head : List ℕ) × (tail : List (List ℕ)) × (parts ++ more ≡ head ∷ tail)
append_cons [] more first rest e = (first, rest, e)
append_cons (part ∷ parts) more first rest e = (part, parts ++ more, refl)

lines_append : (spelling : MaskSpelling) (parts more : List (List ℕ)) (first : List ℕ) (rest : List (List ℕ)) → more ≡ first ∷ rest
    → lines_of spelling (parts ++ more) ≡ map (judged spelling) parts ++ lines_of spelling more
lines_append spelling [] more first rest e = refl
lines_append spelling (part ∷ parts) more first rest e =
    let cons = append_cons parts more first rest e in
    lines_cons spelling part (parts ++ more) cons.0 cons.1 cons.2
    ∙ ap (λ (lines : List Judged). judged spelling part ∷ lines) (lines_append spelling parts more first rest e)

lines_behind : (spelling : MaskSpelling) (front rest : List ℕ) → lines_in spelling (front ++ 10 ∷ rest) ≡ map (judged spelling) (slice_split is_newline front) ++ lines_in spelling rest
lines_behind spelling front rest =
    let parts = split_cons is_newline rest in
    ap (lines_of spelling) (split_at_line front rest)
    ∙ lines_append spelling (slice_split is_newline front) (slice_split is_newline rest) parts.0 parts.1 parts.2

-- ---- whole lines end with LF

line_end : (x : ℕ) (xs : List ℕ) → slice_index (x ∷ xs) (length xs) ≡ 10 → (front : List ℕ) × (x ∷ xs ≡ front ++ 10 ∷ [])
line_end x [] last = ([], ap (λ (y : ℕ). y ∷ []) last)
line_end x (y ∷ ys) last = let more = line_end y ys last in (x ∷ more.0, ap (λ (zs : List ℕ). x ∷ zs) more.1)

joined_at : (spelling : MaskSpelling) (text front rest : List ℕ) → text ≡ front ++ 10 ∷ [] → lines_in spelling (text ++ rest) ≡ lines_in spelling text ++ lines_in spelling rest
joined_at spelling text front rest e =
    let before = map (judged spelling) (slice_split is_newline front) in
    let own : lines_in spelling text ≡ before = ap (lines_in spelling) e ∙ lines_behind spelling front [] ∙ append-nil before in
    ap (λ (t : List ℕ). lines_in spelling (t ++ rest)) e
    ∙ ap (lines_in spelling) (append_assoc front (10 ∷ []) rest)
    ∙ lines_behind spelling front rest
    ∙ ap (λ (lines : List Judged). lines ++ lines_in spelling rest) (sym own)

pub lines_joined : (spelling : MaskSpelling) (text rest : List ℕ) → IsLines text → lines_in spelling (text ++ rest) ≡ lines_in spelling text ++ lines_in spelling rest
lines_joined spelling [] rest whole = refl
lines_joined spelling (x ∷ xs) rest whole =
    let place : length (x ∷ xs) - 1 ≡ length xs = omega arith in
    let last : slice_index (x ∷ xs) (length xs) ≡ 10 = sym (ap (λ (n : ℕ). slice_index (x ∷ xs) n) place) ∙ whole (omega arith) in
    let end = line_end x xs last in
    joined_at spelling (x ∷ xs) end.0 rest end.1
