-- A `task` line is no entry, since it begins with no digit.
use Rattle.std.proofs.Common.{◌≡◌, ℕ, ◌<◌, Bool, true, false, cond, not, ◌&&◌, eqb, leb, ltb, List, [], ◌∷◌, length, get_or, take, drop, Option, Some, None, Ok, Err, refl, sym, ◌∙◌, ap, subst, arith, nat_eq}
use Rattle.std.specs.Prelude.{codes}
use Rattle.std.specs.Char.{is_ascii_digit}
use Rattle.std.specs.List.{list_all, before_first, after_first, position_or_len, slice_split, starts_with}
use Rattle.std.specs.Str.{bytes_eq}
use Rattle.std.specs.Str.Parse.{digits_value}
use Rattle.std.proofs.lemmas.Bool.{and_parts, and_left, cond-false, cond-true, eqb-true}
use Rattle.std.proofs.lemmas.List.{get_or-take, length-take}
use Rattle.std.proofs.lemmas.Option.{cond_some}
use Rattle.task_descriptor.specs.Names.{is_name}
use Rattle.mask_certificate.specs.declared.fault.CertFault.TheVariants.{Line, TaskName}
use Rattle.mask_certificate.specs.declared.fault.MaskSpelling.{MaskSpelling}
use Rattle.mask_certificate.specs.CertificateReading.{is_newline, is_space, is_index, mask_in, both, entry_in, name_in, task_line, judged, judged_by, lines_in, opens, misplaced, behind_task_line, at_end}
use Rattle.mask_certificate.proofs.LineLemmas.{lines_more}

fourth_fails : (a b c d e : Bool) → d ≡ false → (a && (b && (c && (d && e)))) ≡ false
fourth_fails false b c d e h = refl
fourth_fails true false c d e h = refl
fourth_fails true true false d e h = refl
fourth_fails true true true d e h = and_left d e h

-- bytes that begin with no digit are no index
no_index : (ds : List ℕ) → (0 < length ds → is_ascii_digit (get_or ds 0 0) ≡ false) → is_index ds ≡ false
no_index [] other = refl
no_index (d ∷ ds) other =
    fourth_fails (leb 1 (length (d ∷ ds))) (leb (length (d ∷ ds)) 5) (not (eqb (get_or (d ∷ ds) 0 0) 48 && ltb 1 (length (d ∷ ds)))) (is_ascii_digit d) (list_all is_ascii_digit ds) (other (omega arith))

begins_with_t : (line : List ℕ) → starts_with nat_eq line (codes "task ") ≡ true → get_or line 0 0 ≡ 116
begins_with_t [] e = absurd cc
begins_with_t (b ∷ bs) e = sym (eqb-true 116 b (and_parts (eqb 116 b) _ e).0)

task_no_entry : (spelling : MaskSpelling) (line : List ℕ) → starts_with nat_eq line (codes "task ") ≡ true → entry_in spelling line ≡ None
task_no_entry spelling line e =
    let n = position_or_len is_space line in
    let first : 0 < length (take n line) → is_ascii_digit (get_or (take n line) 0 0) ≡ false = λ some.
    let within : 0 < n = omega (arith, length-take n line) in
    ap is_ascii_digit (get_or-take n line 0 0 within ∙ begins_with_t line e) in
    ap (λ b. both (cond b (Some (digits_value 10 (before_first is_space line))) None) (mask_in spelling (after_first is_space line))) (no_index (before_first is_space line) first)

pub judged_named : (spelling : MaskSpelling) (line name : List ℕ) → Some name ≡ name_in line → judged spelling line ≡ task_line name
judged_named spelling line name e =
    let parts = cond_some _ (drop 5 line) name (sym e) in
    let starts = and_parts (starts_with nat_eq line (codes "task ")) (is_name (drop 5 line)) parts.0 in
    ap (λ o. judged_by o (name_in line)) (task_no_entry spelling line starts.0) ∙ ap (judged_by None) (sym e)

unnamed : (entry : Option (ℕ × ℕ)) (n : ℕ) (name : List ℕ) → (opens name (judged_by entry None) ≡ false) × (misplaced n (judged_by entry None) ≡ Line n)
unnamed None n name = (refl, refl)
unnamed (Some entry) n name = (refl, refl)

pub judged_unnamed : (spelling : MaskSpelling) (line : List ℕ) (n : ℕ) (name : List ℕ) → None ≡ name_in line → (opens name (judged spelling line) ≡ false) × (misplaced n (judged spelling line) ≡ Line n)
judged_unnamed spelling line n name e = subst (λ o. (opens name (judged_by (entry_in spelling line) o) ≡ false) × (misplaced n (judged_by (entry_in spelling line) o) ≡ Line n)) e (unnamed (entry_in spelling line) n name)

module _ (spelling : MaskSpelling) (text line rest : List ℕ) (n : ℕ) (cut : slice_split is_newline text ≡ line ∷ slice_split is_newline rest) where
  -- the right `task` line
  pub behind_right : (name found : List ℕ) → Some found ≡ name_in line → bytes_eq found name ≡ true → behind_task_line n name (lines_in spelling text) ≡ Ok (lines_in spelling rest)
  behind_right name found e same =
      ap (behind_task_line n name) (lines_more spelling text line rest cut)
      ∙ ap (λ j. behind_task_line n name (j ∷ lines_in spelling rest)) (judged_named spelling line found e)
      ∙ cond-true (bytes_eq found name) (Ok (lines_in spelling rest)) (Err (TaskName n)) same

  -- a `task` line of another task
  pub behind_other : (name found : List ℕ) → Some found ≡ name_in line → bytes_eq found name ≡ false → behind_task_line n name (lines_in spelling text) ≡ Err (TaskName n)
  behind_other name found e other =
      ap (behind_task_line n name) (lines_more spelling text line rest cut)
      ∙ ap (λ j. behind_task_line n name (j ∷ lines_in spelling rest)) (judged_named spelling line found e)
      ∙ cond-false (bytes_eq found name) (Ok (lines_in spelling rest)) (Err (TaskName n)) other

  -- no `task` line
  pub behind_none : (name : List ℕ) → None ≡ name_in line → behind_task_line n name (lines_in spelling text) ≡ Err (Line n)
  behind_none name e =
      let j = judged_unnamed spelling line n name e in
      ap (behind_task_line n name) (lines_more spelling text line rest cut)
      ∙ cond-false (opens name (judged spelling line)) (Ok (lines_in spelling rest)) (Err (misplaced n (judged spelling line))) j.0
      ∙ ap (λ f. Err f) j.1

  pub end_named : (found : List ℕ) → Some found ≡ name_in line → at_end n (lines_in spelling text) ≡ Err (TaskName n)
  end_named found e =
      ap (at_end n) (lines_more spelling text line rest cut) ∙ ap (λ j. Err (misplaced n j)) (judged_named spelling line found e)

  pub end_none : None ≡ name_in line → at_end n (lines_in spelling text) ≡ Err (Line n)
  end_none e =
      ap (at_end n) (lines_more spelling text line rest cut) ∙ ap (λ f. Err f) (judged_unnamed spelling line n [] e).1
