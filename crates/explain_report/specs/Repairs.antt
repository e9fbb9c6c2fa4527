-- What `explain --fix` writes: the author's text with the fixes that were judged, and what is left.
use Rattle.jobs.specs.declared.job.Warnings.{Warnings}
use Rattle.std.specs.Prelude.{◌≡◌, ◌⊎◌, ℕ, List, Option, Some, None, Err}
use Rattle.annotated_asm.specs.declared.fault.AsmFault.{AsmFault}
use Rattle.annotated_asm.specs.ProgramText.{parse}
use Rattle.diagnostics.specs.declared.diagnostic.Diagnostic.{Diagnostic}
use Rattle.mark_diagnostics.specs.Errors.{AreMarkErrors}
use Rattle.input_diagnostics.specs.MistakenTexts.{mistaken_kind}
use Rattle.judged_fixes.specs.declared.fixed.Fixed.{Fixed}
use Rattle.judged_fixes.specs.Fixed.{IsFixed}
use Rattle.explain_report.specs.declared.explained.Explanation.{Explanation}
use Rattle.explain_report.specs.declared.repairing.Repaired.{Repaired}
use Rattle.explain_report.specs.Explained.{IsExplained, IsRefusedBy, asked_of, final_status}

-- a text with fixes; as it is where there is none to make
abbrev pub text_with : Option Fixed → (text : List ℕ) → List ℕ
text_with None text = text
text_with (Some fixed) text = fixed.text

-- What is written is the text with the fixes that `explain` judged. Its marks are told, and its status is that of `explain`
-- of it.
pub record IsRepaired (cert_file script_file : Option (List ℕ)) (warnings : Warnings) (text certificate script : List ℕ) (r : Repaired) : Type 0 where
  pub before : Explanation
  pub judged : IsExplained (asked_of cert_file script_file warnings text certificate script) before
  pub written : r.text ≡ text_with before.fixed text
  pub after : Explanation
  pub left : IsExplained (asked_of cert_file script_file warnings r.text certificate script) after
  pub marks : r.marks ≡ after.marks
  pub status : r.status ≡ final_status warnings after

-- what is wrong with a text: with its marks, or where it is refused
abbrev pub AreErrorsOf : (text : List ℕ) → List Diagnostic → Type 0
AreErrorsOf text errors = AreMarkErrors text errors
    ⊎ ((fault : AsmFault) × (parse text ≡ Err fault) × IsRefusedBy (mistaken_kind text) text fault errors)

-- the author's text, or that but for edits that the helps of its errors propose, at their places
abbrev pub IsAuthorsBut : (text new : List ℕ) → Type 0
IsAuthorsBut text new = (new ≡ text)
    ⊎ ((errors : List Diagnostic) × AreErrorsOf text errors × (fixed : Fixed) × IsFixed text errors fixed × (new ≡ fixed.text))
