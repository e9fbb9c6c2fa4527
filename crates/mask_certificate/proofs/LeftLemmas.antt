-- A text in parts is read as its lines are: the lines of what is left of a part come first, and then those
-- of the parts after it.
use Rattle.std.proofs.Common.{◌≡◌, ◌⊎◌, ℕ, zero, suc, ◌+◌, ◌-◌, ◌<◌, Bool, true, false, cond, not, ◌&&◌, eqb, List, [], ◌∷◌, ◌++◌, length, take, drop, Option, Some, None, Ok, Err, refl, sym, ◌∙◌, ap, inl, inr, arith, nat_eq}
use Rattle.std.specs.Prelude.{codes, slice_index}
use Rattle.std.specs.List.{list_all, position, starts_with}
use Rattle.std.proofs.lemmas.Bool.{and_parts, eqb-true}
use Rattle.std.proofs.lemmas.List.{append-nil, get_or-drop}
use Rattle.text_pieces.specs.Pieces.{joined, IsLines, AreCut}
use Rattle.mask_certificate.specs.declared.fault.CertFault.{CertFault}
use Rattle.mask_certificate.specs.declared.fault.MaskSpelling.{MaskSpelling}
use Rattle.mask_certificate.specs.declared.fault.MaskSpelling.TheVariants.{Narrow, Wide}
use Rattle.mask_certificate.specs.CertificateText.{first_line}
use Rattle.mask_certificate.specs.CertificateReading.{is_newline, Judged, entry_line, task_line, no_line, lines_in, entries_in, opens, misplaced, behind_task_line, at_end, spelling_of}
use Rattle.mask_certificate.specs.Blocks.{IsEnd}
use Rattle.text_pieces.proofs.Splits.{split_at, split_nowhere}
use Rattle.mask_certificate.proofs.LineLemmas.{lines_more, lines_last}
use Rattle.mask_certificate.proofs.JoinedLines.{lines_joined}

-- ---- an end of whole lines is whole lines

pub lines_end : (text end : List ℕ) → IsEnd text end → IsLines text → IsLines end
lines_end text end is whole some =
    let short = is.0 in
    let k = length text - length end in
    let place : k + (length end - 1) ≡ length text - 1 = omega (arith, short, some) in
    ap (λ (t : List ℕ). slice_index t (length end - 1)) is.1
    ∙ get_or-drop k text (length end - 1) 0
    ∙ ap (λ (n : ℕ). slice_index text n) place
    ∙ whole (omega (arith, short, some))

pub cut_end : (text end : List ℕ) (behind : List (List ℕ)) → IsEnd text end → AreCut (text ∷ behind) → AreCut (end ∷ behind)
cut_end text end behind is (inl whole, cut) = (inl (lines_end text end is whole), cut)
cut_end text end behind is (inr last, cut) = (inr last, cut)

-- ---- the lines of what is left

lines_nothing : (spelling : MaskSpelling) (rest : List ℕ) (behind : List (List ℕ)) → behind ≡ [] → lines_in spelling (rest ++ joined behind) ≡ lines_in spelling rest ++ lines_in spelling (joined behind)
lines_nothing spelling rest behind e =
    ap (λ (ps : List (List ℕ)). lines_in spelling (rest ++ joined ps)) e
    ∙ ap (lines_in spelling) (append-nil rest)
    ∙ sym (append-nil (lines_in spelling rest))
    ∙ sym (ap (λ (ps : List (List ℕ)). lines_in spelling rest ++ lines_in spelling (joined ps)) e)

pub lines_left : (spelling : MaskSpelling) (rest : List ℕ) (behind : List (List ℕ)) → AreCut (rest ∷ behind) → lines_in spelling (rest ++ joined behind) ≡ lines_in spelling rest ++ lines_in spelling (joined behind)
lines_left spelling rest behind (inl whole, cut) = lines_joined spelling rest (joined behind) whole
lines_left spelling rest behind (inr last, cut) = lines_nothing spelling rest behind last

none_last : (b : Bool) → cond {A = List Judged} b [] (no_line ∷ []) ≡ [] → b ≡ true
none_last true e = refl
none_last false e = absurd cc

no_lines_by : (spelling : MaskSpelling) (text : List ℕ) (o : Option ℕ) → position is_newline text ≡ o → lines_in spelling text ≡ [] → length text ≡ 0
no_lines_by spelling text None at e =
    eqb-true (length text) 0 (none_last (eqb (length text) 0) (sym (lines_last spelling text (split_nowhere is_newline text at)) ∙ e))
no_lines_by spelling text (Some k) at e =
    let more = lines_more spelling text (take k text) (take (length text - (k + 1)) (drop (k + 1) text)) (split_at is_newline text k at) in
    let never = sym more ∙ e in
    absurd (cc never)

-- a text without a line is nothing
pub no_lines : (spelling : MaskSpelling) (text : List ℕ) → lines_in spelling text ≡ [] → length text ≡ 0
no_lines spelling text e = no_lines_by spelling text (position is_newline text) refl e

-- ---- the entries at the front

pub entries_joined : (xs ys : List Judged) → entries_in xs ++ entries_in (drop (length (entries_in xs)) xs ++ ys) ≡ entries_in (xs ++ ys)
entries_joined [] ys = refl
entries_joined (entry_line entry ∷ xs) ys = ap (λ (es : List (ℕ × ℕ)). entry ∷ es) (entries_joined xs ys)
entries_joined (task_line name ∷ xs) ys = refl
entries_joined (no_line ∷ xs) ys = refl

pub left_joined : (xs ys : List Judged) → drop (length (entries_in xs)) xs ++ ys ≡ drop (length (entries_in xs)) (xs ++ ys)
left_joined [] ys = refl
left_joined (entry_line entry ∷ xs) ys = left_joined xs ys
left_joined (task_line name ∷ xs) ys = refl
left_joined (no_line ∷ xs) ys = refl

no_more : (xs : List Judged) → entries_in (drop (length (entries_in xs)) xs) ≡ []
no_more [] = refl
no_more (entry_line entry ∷ xs) = no_more xs
no_more (task_line name ∷ xs) = refl
no_more (no_line ∷ xs) = refl

none_joined : (xs ys : List Judged) → entries_in xs ≡ [] → (xs ≡ [] → ys ≡ []) → entries_in (xs ++ ys) ≡ []
none_joined [] ys e end = ap entries_in (end refl)
none_joined (entry_line entry ∷ xs) ys e end = absurd cc
none_joined (task_line name ∷ xs) ys e end = refl
none_joined (no_line ∷ xs) ys e end = refl

-- This is the list at the front of what is left of a part, and its rest.
module _ (spelling : MaskSpelling) (rest after : List ℕ) (behind : List (List ℕ)) (list : List (ℕ × ℕ)) (cut : AreCut (rest ∷ behind)) (cut_after : AreCut (after ∷ behind))
    (found : list ≡ entries_in (lines_in spelling rest)) (left : lines_in spelling after ≡ drop (length list) (lines_in spelling rest)) where
  lines_after : lines_in spelling (after ++ joined behind) ≡ drop (length (entries_in (lines_in spelling rest))) (lines_in spelling rest) ++ lines_in spelling (joined behind)
  lines_after =
      lines_left spelling after behind cut_after
      ∙ ap (λ (ls : List Judged). ls ++ lines_in spelling (joined behind)) (left ∙ ap (λ (es : List (ℕ × ℕ)). drop (length es) (lines_in spelling rest)) found)

  pub list_entries : list ++ entries_in (lines_in spelling (after ++ joined behind)) ≡ entries_in (lines_in spelling (rest ++ joined behind))
  list_entries =
      ap (λ (es : List (ℕ × ℕ)). es ++ entries_in (lines_in spelling (after ++ joined behind))) found
      ∙ ap (λ (ls : List Judged). entries_in (lines_in spelling rest) ++ entries_in ls) lines_after
      ∙ entries_joined (lines_in spelling rest) (lines_in spelling (joined behind))
      ∙ sym (ap entries_in (lines_left spelling rest behind cut))

  pub list_left : lines_in spelling (after ++ joined behind) ≡ drop (length list) (lines_in spelling (rest ++ joined behind))
  list_left =
      lines_after
      ∙ left_joined (lines_in spelling rest) (lines_in spelling (joined behind))
      ∙ ap (λ (es : List (ℕ × ℕ)). drop (length es) (lines_in spelling rest ++ lines_in spelling (joined behind))) (sym found)
      ∙ sym (ap (drop (length list)) (lines_left spelling rest behind cut))

  -- where the rest is not nothing, the list does not go on
  pub list_stays : 0 < length after → entries_in (lines_in spelling (after ++ joined behind)) ≡ []
  list_stays some =
      ap entries_in (lines_left spelling after behind cut_after)
      ∙ none_joined (lines_in spelling after) (lines_in spelling (joined behind))
      (ap entries_in (left ∙ ap (λ (es : List (ℕ × ℕ)). drop (length es) (lines_in spelling rest)) found) ∙ no_more (lines_in spelling rest))
      (λ e. let nothing = no_lines spelling after e in absurd (omega (arith, some, nothing)))

-- ---- the `task` line

opened : (b : Bool) (xs ys rest : List Judged) (fault : CertFault) → cond b (Ok xs) (Err fault) ≡ Ok rest → cond b (Ok (xs ++ ys)) (Err fault) ≡ Ok (rest ++ ys)
opened true xs ys rest fault e = let same : xs ≡ rest = cc e in ap (λ (ls : List Judged). Ok (ls ++ ys)) same
opened false xs ys rest fault e = absurd (cc e)

refused : (b : Bool) (xs ys : List Judged) (fault found : CertFault) → cond b (Ok xs) (Err fault) ≡ Err found → cond b (Ok (xs ++ ys)) (Err fault) ≡ Err found
refused true xs ys fault found e = absurd (cc e)
refused false xs ys fault found e = e

behind_joined : (n : ℕ) (name : List ℕ) (xs ys rest : List Judged) → behind_task_line n name xs ≡ Ok rest → behind_task_line n name (xs ++ ys) ≡ Ok (rest ++ ys)
behind_joined n name [] ys rest e = absurd (cc e)
behind_joined n name (line ∷ xs) ys rest e = opened (opens name line) xs ys rest (misplaced n line) e

fault_joined : (n : ℕ) (name : List ℕ) (xs ys : List Judged) (fault : CertFault) → (xs ≡ [] → ys ≡ []) → behind_task_line n name xs ≡ Err fault → behind_task_line n name (xs ++ ys) ≡ Err fault
fault_joined n name [] ys fault end e = ap (behind_task_line n name) (end refl) ∙ e
fault_joined n name (line ∷ xs) ys fault end e = refused (opens name line) xs ys (misplaced n line) fault e

end_joined : (n : ℕ) (xs ys : List Judged) → (xs ≡ [] → ys ≡ []) → at_end n (xs ++ ys) ≡ at_end n xs
end_joined n [] ys end = ap (at_end n) (end refl)
end_joined n (line ∷ xs) ys end = refl

-- at the end of a part nothing is left
module _ (spelling : MaskSpelling) (rest : List ℕ) (behind : List (List ℕ)) (cut : AreCut (rest ∷ behind)) (at_end_of : length rest ≡ 0 → rest ++ joined behind ≡ []) where
  nothing_behind : lines_in spelling rest ≡ [] → lines_in spelling (joined behind) ≡ []
  nothing_behind e =
      let all = at_end_of (no_lines spelling rest e) in
      sym (ap (λ (ls : List Judged). ls ++ lines_in spelling (joined behind)) e) ∙ sym (lines_left spelling rest behind cut) ∙ ap (lines_in spelling) all

  pub left_behind : (n : ℕ) (name after : List ℕ) → AreCut (after ∷ behind) → behind_task_line n name (lines_in spelling rest) ≡ Ok (lines_in spelling after)
      → behind_task_line n name (lines_in spelling (rest ++ joined behind)) ≡ Ok (lines_in spelling (after ++ joined behind))
  left_behind n name after cut_after e =
      ap (behind_task_line n name) (lines_left spelling rest behind cut)
      ∙ behind_joined n name (lines_in spelling rest) (lines_in spelling (joined behind)) (lines_in spelling after) e
      ∙ ap (λ (ls : List Judged). Ok ls) (sym (lines_left spelling after behind cut_after))

  pub left_refused : (n : ℕ) (name : List ℕ) (fault : CertFault) → behind_task_line n name (lines_in spelling rest) ≡ Err fault → behind_task_line n name (lines_in spelling (rest ++ joined behind)) ≡ Err fault
  left_refused n name fault e =
      ap (behind_task_line n name) (lines_left spelling rest behind cut)
      ∙ fault_joined n name (lines_in spelling rest) (lines_in spelling (joined behind)) fault nothing_behind e

  pub left_end : (n : ℕ) → at_end n (lines_in spelling (rest ++ joined behind)) ≡ at_end n (lines_in spelling rest)
  left_end n =
      ap (at_end n) (lines_left spelling rest behind cut) ∙ end_joined n (lines_in spelling rest) (lines_in spelling (joined behind)) nothing_behind

-- ---- the first line, which has no LF but at its end, lies in the first part that is not nothing

other_first : (f x : ℕ) (a b : Bool) → not (eqb f 10) ≡ true → x ≡ 10 → (eqb f x && a) ≡ (eqb f x && b)
other_first f x a b other last = rw last (by_first (eqb f 10) other)
  where
    by_first : (c : Bool) → not c ≡ true → (c && a) ≡ (c && b)
    by_first true e = absurd cc
    by_first false e = refl

starts_by : (x : ℕ) (xs ys front : List ℕ) → slice_index (x ∷ xs) (length xs) ≡ 10 → list_all (λ byte. not (eqb byte 10)) front ≡ true
    → starts_with nat_eq (x ∷ (xs ++ ys)) (front ++ 10 ∷ []) ≡ starts_with nat_eq (x ∷ xs) (front ++ 10 ∷ [])
starts_by x xs ys [] last other = refl
starts_by x [] ys (f ∷ front) last other = other_first f x _ _ (and_parts (not (eqb f 10)) _ other).0 last
starts_by x (y ∷ xs) ys (f ∷ front) last other = ap (λ (b : Bool). eqb f x && b) (starts_by y xs ys front last (and_parts (not (eqb f 10)) _ other).1)

abbrev spelling_by : (wide narrow : Bool) → Option MaskSpelling
spelling_by wide narrow = cond wide (Some Wide) (cond narrow (Some Narrow) None)

spelling_lines : (rest more : List ℕ) → 0 < length rest → IsLines rest → spelling_of (rest ++ more) ≡ spelling_of rest
spelling_lines [] more some whole = absurd (omega arith)
spelling_lines (x ∷ xs) more some whole =
    let place : length (x ∷ xs) - 1 ≡ length xs = omega arith in
    let last : slice_index (x ∷ xs) (length xs) ≡ 10 = sym (ap (λ (n : ℕ). slice_index (x ∷ xs) n) place) ∙ whole some in
    ap (λ (b : Bool). spelling_by b (starts_with nat_eq (x ∷ (xs ++ more)) (first_line Narrow))) (starts_by x xs more (codes "cert 2") last refl)
    ∙ ap (λ (b : Bool). spelling_by (starts_with nat_eq (x ∷ xs) (first_line Wide)) b) (starts_by x xs more (codes "cert 1") last refl)

spelling_last : (rest : List ℕ) (behind : List (List ℕ)) → behind ≡ [] → spelling_of (rest ++ joined behind) ≡ spelling_of rest
spelling_last rest behind e = ap (λ (ps : List (List ℕ)). spelling_of (rest ++ joined ps)) e ∙ ap spelling_of (append-nil rest)

spelling_nothing : (rest more : List ℕ) → length rest ≡ 0 → rest ++ more ≡ [] → spelling_of (rest ++ more) ≡ spelling_of rest
spelling_nothing [] more none e = ap spelling_of e
spelling_nothing (x ∷ rest) more none e = absurd (omega arith)

spelling_by_length : (n : ℕ) (rest : List ℕ) (behind : List (List ℕ)) → length rest ≡ n → (IsLines rest ⊎ (behind ≡ [])) → (length rest ≡ 0 → rest ++ joined behind ≡ [])
    → spelling_of (rest ++ joined behind) ≡ spelling_of rest
spelling_by_length n rest behind long (inr last) end = spelling_last rest behind last
spelling_by_length zero rest behind long (inl whole) end = spelling_nothing rest (joined behind) long (end long)
spelling_by_length (suc n) rest behind long (inl whole) end = spelling_lines rest (joined behind) (omega (arith, long)) whole

pub spelling_left : (rest : List ℕ) (behind : List (List ℕ)) → AreCut (rest ∷ behind) → (length rest ≡ 0 → rest ++ joined behind ≡ []) → spelling_of (rest ++ joined behind) ≡ spelling_of rest
spelling_left rest behind cut end = spelling_by_length (length rest) rest behind refl cut.0 end
