-- What is said of a text's marks is what its program's are.
use Rattle.std.proofs.Common.{◌≡◌, ◌↔◌, ℕ, true, false, List, Option, Some, None, Result, Ok, Err, length, refl, sym, ◌∙◌, subst}
use Rattle.std.proofs.lemmas.List.{nil_from_length}
use Rattle.task_descriptor.specs.Listing.{Listing}
use Rattle.annotated_asm.specs.declared.fault.AsmFault.{AsmFault}
use Rattle.annotated_asm.specs.ProgramText.{parse}
use Rattle.task_graph.specs.Soundness.{Sound}
use Rattle.judged_fixes.specs.declared.judge.Marks.{Marks}
use Rattle.judged_fixes.specs.declared.judge.Marks.TheVariants.{Right, Wrong, Unread}
use Rattle.judged_fixes.specs.declared.edit.Edit.{Edit}
use Rattle.judged_fixes.specs.declared.fixed.Fixed.{Fixed}
use Rattle.judged_fixes.specs.Fixed.{IsSaidRight, IsTakenIfRight, says_right}
use Rattle.judged_fixes.specs.Mended.{IsMended}
use Rattle.judged_fixes.specs.Right.{IsRight, IsSaidOf, IsUnread}
use Rattle.judged_fixes.proofs.Cuts.{one_text}

one_program : (r : Result Listing AsmFault) (p q : Listing) → r ≡ Ok p → r ≡ Ok q → p ≡ q
one_program r p q one other = cc

no_fault : (r : Result Listing AsmFault) (p : Listing) (fault : AsmFault) → r ≡ Ok p → r ≡ Err fault → ⊥
no_fault r p fault spelled refused = cc

pub right_of : (text : List ℕ) (p : Listing) (marks : Marks) → parse text ≡ Ok p → IsSaidOf p marks → (marks ≡ Right) ↔ IsRight text
right_of text p Right spelled sound = (λ _. record { program = p; spelled = spelled; sound = sound }, λ _. refl)
right_of text p Wrong spelled unsound =
    (λ e. absurd (cc), λ right. absurd (unsound (subst Sound (one_program (parse text) right.program p right.spelled spelled) right.sound)))
right_of text p Unread spelled none = absurd none

pub unread_of : (text : List ℕ) (p : Listing) (marks : Marks) → parse text ≡ Ok p → IsSaidOf p marks → (marks ≡ Unread) ↔ IsUnread text
unread_of text p Right spelled sound = (λ e. absurd (cc), λ unread. absurd (no_fault (parse text) p unread.fault spelled unread.refused))
unread_of text p Wrong spelled unsound = (λ e. absurd (cc), λ unread. absurd (no_fault (parse text) p unread.fault spelled unread.refused))
unread_of text p Unread spelled none = absurd none

pub right_where_refused : (text : List ℕ) (fault : AsmFault) → parse text ≡ Err fault → (Unread ≡ Right) ↔ IsRight text
right_where_refused text fault refused =
    (λ e. absurd (cc), λ right. absurd (no_fault (parse text) right.program fault right.spelled refused))

pub unread_where_refused : (text : List ℕ) (fault : AsmFault) → parse text ≡ Err fault → (Unread ≡ Unread) ↔ IsUnread text
unread_where_refused text fault refused = (λ _. record { fault = fault; refused = refused }, λ _. refl)

-- A text that is taken if its marks are right.

pub nothing_to_take : (text : List ℕ) (edits : List Edit) (places : List ℕ) (fixed : Option Fixed) → length places ≡ 0 → IsTakenIfRight text edits places fixed
nothing_to_take text edits places fixed none = record { taken = λ some _. absurd (some (nil_from_length places none)) }

unread_is_not_right : Unread ≡ Right → ⊥
unread_is_not_right e = cc

pub unread_not_taken : (text new : List ℕ) (edits : List Edit) (places : List ℕ) (marks : Marks) → IsMended text edits new
    → (marks ≡ Right) ↔ IsRight new → marks ≡ Unread → IsTakenIfRight text edits places None
unread_not_taken text new edits places marks is right unread = record {
  taken = λ some other made sound. absurd (unread_is_not_right (sym unread ∙ right.1 (subst IsRight (one_text 0 text edits other new made is) sound)));
}

pub none_taken : (text : List ℕ) (edits : List Edit) (places : List ℕ) → ((new : List ℕ) → IsMended text edits new → ⊥) → IsTakenIfRight text edits places None
none_taken text edits places none = record { taken = λ some new made sound. absurd (none new made) }

pub made_taken : (text : List ℕ) (edits : List Edit) (places : List ℕ) (marks : Marks) (f : Fixed) → IsMended text edits f.text
    → (marks ≡ Right) ↔ IsRight f.text → (f.is_right ≡ true) ↔ (marks ≡ Right) → IsTakenIfRight text edits places (Some f)
made_taken text edits places marks f is right said = record {
  taken = λ some new made sound. (let same : f.text ≡ new = one_text 0 text edits f.text new is made in
      (same, said.1 (right.1 (subst IsRight (sym same) sound))));
}

-- one that is not said to be right was not taken, so its marks are not right
not_right : (new : List ℕ) (together : Option Fixed) → IsSaidRight new together → says_right together ≡ false → ⊥
not_right new None with_it said = with_it
not_right new (Some f) with_it said = let yes : f.is_right ≡ true = with_it.1 in cc

pub another_taken : (text : List ℕ) (edits : List Edit) (places : List ℕ) (together fixed : Option Fixed) → IsTakenIfRight text edits places together
    → says_right together ≡ false → IsTakenIfRight text edits places fixed
another_taken text edits places together fixed h said = record {
  taken = λ some new made sound. absurd (not_right new together (h.taken some new made sound) said);
}
