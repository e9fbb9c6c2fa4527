-- What is said of the marks of a text, and what `explain --fix` writes.
use Rattle.std.proofs.Common.{◌≡◌, ◌↔◌, ℕ, List, Option, Some, None, Result, Ok, Err, inl, inr, refl, sym, subst}
use Rattle.task_descriptor.specs.Listing.{Listing}
use Rattle.annotated_asm.specs.declared.fault.AsmFault.{AsmFault}
use Rattle.annotated_asm.specs.ProgramText.{parse}
use Rattle.judged_fixes.specs.declared.fixed.Fixed.{Fixed}
use Rattle.judged_fixes.specs.declared.judge.Marks.{Marks}
use Rattle.judged_fixes.specs.declared.judge.Marks.TheVariants.{Right, Unread}
use Rattle.judged_fixes.specs.Fixed.{IsFixed}
use Rattle.judged_fixes.specs.Further.{IsFixedFurther}
use Rattle.judged_fixes.specs.Right.{IsRight, IsUnread}
use Rattle.judged_fixes.proofs.Judging.{right_of, unread_of, right_where_refused, unread_where_refused}
use Rattle.explain_report.specs.declared.explained.Explanation.{Explanation}
use Rattle.explain_report.specs.declared.repairing.Repaired.{Repaired}
use Rattle.explain_report.specs.Explained.{Asked, IsExplained, IsReadExplained, asked_of}
use Rattle.jobs.specs.declared.job.Warnings.{Warnings}
use Rattle.explain_report.specs.Repairs.{IsAuthorsBut, IsRepaired, text_with}

-- what is said of the marks holds
abbrev AreTold : (text : List ℕ) → Marks → Type 0
AreTold text marks = ((marks ≡ Right) ↔ IsRight text) × ((marks ≡ Unread) ↔ IsUnread text)

marks_read : (asked : Asked) (e : Explanation) (r : Result Listing AsmFault) → parse asked.text ≡ r → IsReadExplained asked r e → AreTold asked.text e.marks
marks_read asked e (Ok p) spelled h = (right_of asked.text p e.marks spelled h.marked, unread_of asked.text p e.marks spelled h.marked)
marks_read asked e (Err fault) refused h = subst (λ (m : Marks). AreTold asked.text m) (sym h.marked)
    (right_where_refused asked.text fault refused, unread_where_refused asked.text fault refused)

pub marks_told : (asked : Asked) (e : Explanation) → IsExplained asked e → AreTold asked.text e.marks
marks_told asked e h = marks_read asked e (parse asked.text) refl h

with_fixes : (asked : Asked) (e : Explanation) (r : Result Listing AsmFault) (fixed : Option Fixed)
    → parse asked.text ≡ r → e.fixed ≡ fixed → IsReadExplained asked r e → IsAuthorsBut asked.text (text_with fixed asked.text)
with_fixes asked e r None parsed is h = inl refl
with_fixes asked e (Ok p) (Some f) parsed is h =
    let fixed : IsFixed asked.text h.errors f = rw is at h.fixed in
    inr (h.errors, inl h.wrong, f, fixed, refl)
with_fixes asked e (Err fault) (Some f) parsed is h =
    let further : IsFixedFurther asked.text fault h.errors f = rw is at h.fixed in
    inr (h.errors, inr (fault, parsed, h.wrong), f, further.fixed, refl)

pub authors : (cert_file script_file : Option (List ℕ)) (warnings : Warnings) (text certificate script : List ℕ) (r : Repaired)
    → IsRepaired cert_file script_file warnings text certificate script r → IsAuthorsBut text r.text
authors cert_file script_file warnings text certificate script r h =
    subst (λ (new : List ℕ). IsAuthorsBut text new) (sym h.written)
    (with_fixes (asked_of cert_file script_file warnings text certificate script) h.before (parse text) h.before.fixed refl refl h.judged)

pub right_repaired : (cert_file script_file : Option (List ℕ)) (warnings : Warnings) (text certificate script : List ℕ) (r : Repaired)
    → IsRepaired cert_file script_file warnings text certificate script r → (r.marks ≡ Right) ↔ IsRight r.text
right_repaired cert_file script_file warnings text certificate script r h =
    subst (λ (m : Marks). (m ≡ Right) ↔ IsRight r.text) (sym h.marks)
    (marks_told (asked_of cert_file script_file warnings r.text certificate script) h.after h.left).0
