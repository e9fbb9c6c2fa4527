-- The lines of a text: its first line, and the entries of a list, one after another.
use Rattle.std.proofs.Common.{◌≡◌, ℕ, Bool, true, false, cond, eqb, List, [], ◌∷◌, ◌++◌, length, drop, Option, Some, None, refl, sym, ◌∙◌, ap, subst}
use Rattle.std.specs.List.{slice_split}
use Rattle.std.proofs.lemmas.List.{append_assoc, drop-drop, length_push}
use Rattle.text_pieces.proofs.Splits.{split_cons}
use Rattle.mask_certificate.specs.declared.fault.MaskSpelling.{MaskSpelling}
use Rattle.mask_certificate.specs.CertificateReading.{is_newline, Judged, entry_line, no_line, judged, judged_by, entry_in, name_in, lines_of, lines_in, entries_in}

pub lines_cons : (spelling : MaskSpelling) (line : List ℕ) (parts : List (List ℕ)) (first : List ℕ) (rest : List (List ℕ)) → parts ≡ first ∷ rest
    → lines_of spelling (line ∷ parts) ≡ judged spelling line ∷ lines_of spelling parts
lines_cons spelling line parts first rest e =
    subst (λ (q : List (List ℕ)). lines_of spelling (line ∷ q) ≡ judged spelling line ∷ lines_of spelling q) (sym e) refl

-- a first line, and the lines of what follows
pub lines_more : (spelling : MaskSpelling) (text line rest : List ℕ) → slice_split is_newline text ≡ line ∷ slice_split is_newline rest → lines_in spelling text ≡ judged spelling line ∷ lines_in spelling rest
lines_more spelling text line rest e =
    let parts = split_cons is_newline rest in
    ap (lines_of spelling) e ∙ lines_cons spelling line (slice_split is_newline rest) parts.0 parts.1 parts.2

-- a text without an LF
pub lines_last : (spelling : MaskSpelling) (text : List ℕ) → slice_split is_newline text ≡ text ∷ [] → lines_in spelling text ≡ cond (eqb (length text) 0) [] (no_line ∷ [])
lines_last spelling text e = ap (lines_of spelling) e

last_entries : (b : Bool) → entries_in (cond b [] (no_line ∷ [])) ≡ []
last_entries true = refl
last_entries false = refl

pub no_entries_last : (spelling : MaskSpelling) (text : List ℕ) → slice_split is_newline text ≡ text ∷ [] → entries_in (lines_in spelling text) ≡ []
no_entries_last spelling text e = ap entries_in (lines_last spelling text e) ∙ last_entries (eqb (length text) 0)

other_entries : (name : Option (List ℕ)) (lines : List Judged) → entries_in (judged_by None name ∷ lines) ≡ []
other_entries None lines = refl
other_entries (Some name) lines = refl

-- a first line that is no entry
pub no_entries_other : (spelling : MaskSpelling) (text line rest : List ℕ) → slice_split is_newline text ≡ line ∷ slice_split is_newline rest → entry_in spelling line ≡ None → entries_in (lines_in spelling text) ≡ []
no_entries_other spelling text line rest e other =
    ap entries_in (lines_more spelling text line rest e) ∙ ap (λ o. entries_in (judged_by o (name_in line) ∷ lines_in spelling rest)) other ∙ other_entries (name_in line) (lines_in spelling rest)

-- ---- the entries of a list, one after another

pub entries_push : (front : List (ℕ × ℕ)) (entry : ℕ × ℕ) (lines after : List Judged) (whole : List (ℕ × ℕ)) → lines ≡ entry_line entry ∷ after → front ++ entries_in lines ≡ whole
    → (front ++ entry ∷ []) ++ entries_in after ≡ whole
entries_push front entry lines after whole e so_far =
    append_assoc front (entry ∷ []) (entries_in after) ∙ sym (ap (λ (ls : List Judged). front ++ entries_in ls) e) ∙ so_far

pub left_push : (front : List (ℕ × ℕ)) (entry : ℕ × ℕ) (lines after whole : List Judged) → lines ≡ entry_line entry ∷ after → lines ≡ drop (length front) whole
    → after ≡ drop (length (front ++ entry ∷ [])) whole
left_push front entry lines after whole e left =
    sym (ap (drop 1) (sym left ∙ e)) ∙ drop-drop 1 (length front) whole ∙ ap (λ n. drop n whole) (sym (length_push front entry))
