-- What `explain` says: what is wrong with a program text, or with the marks of its program, what could be better about
-- them, and what is wrong with a certificate and with an event script that are given beside it.
use Rattle.std.specs.Prelude.{◌≡◌, ◌↔◌, ◌≤◌, ℕ, Bool, true, false, ◌&&◌, List, [], ◌∷◌, ◌++◌, length, Option, Some, None, IfSome, Result, Ok, Err}
use Rattle.std.specs.List.{All}
use Rattle.std.specs.Option.{option_map}
use Rattle.std.specs.String.{string_bytes}
use Rattle.task_descriptor.specs.Listing.{Listing}
use Rattle.annotated_asm.specs.declared.fault.AsmFault.{AsmFault}
use Rattle.annotated_asm.specs.ProgramText.{parse}
use Rattle.mask_certificate.specs.declared.fault.CertFault.{CertFault}
use Rattle.mask_certificate.specs.CertificateReading.{cert_parse, names_of}
use Rattle.mark_checker.specs.Rules.{all_rules}
use Rattle.annotator.specs.Least.{IsLeast}
use Rattle.diagnostics.specs.declared.diagnostic.Diagnostic.{Diagnostic}
use Rattle.diagnostics.specs.declared.diagnostic.Source.TheVariants.{Program}
use Rattle.text_diagnostics.specs.Refusals.{IsTold}
use Rattle.mark_diagnostics.specs.Errors.{AreMarkErrors}
use Rattle.mark_diagnostics.specs.Warnings.{AreMarkWarnings}
use Rattle.release_proposals.specs.Paying.{IsForgotten}
use Rattle.input_diagnostics.specs.declared.mistaken.Mistaken.{Mistaken}
use Rattle.input_diagnostics.specs.Advice.{IsErrorIn}
use Rattle.input_diagnostics.specs.MistakenTexts.{mistaken_kind}
use Rattle.input_diagnostics.specs.CertificateErrors.{AreCertificateErrors}
use Rattle.input_diagnostics.specs.ScriptErrors.{AreScriptErrors}
use Rattle.judged_fixes.specs.Fixed.{AreSameErrors, IsFixed}
use Rattle.judged_fixes.specs.Further.{IsFixedFurther, IsFirstInWords}
use Rattle.judged_fixes.specs.Right.{IsSaidOf}
use Rattle.judged_fixes.specs.declared.judge.Marks.TheVariants.{Unread}
use Rattle.jobs.specs.declared.job.Warnings.{Warnings}
use Rattle.jobs.specs.declared.job.Warnings.TheVariants.{Silent, AsErrors}
use Rattle.report_texts.specs.OutputTexts.{Report}
use Rattle.explain_report.specs.declared.explained.Explanation.{Explanation}
use Rattle.explain_report.specs.declared.given.Given.{Given}
use Rattle.explain_report.specs.Order.{in_order}

-- what `explain` is asked about: a program text, and the texts of a certificate and of an event script, if they are given
pub record Asked : Type 0 where
  pub text : List ℕ
  pub certificate : Option (List ℕ)
  pub script : Option (List ℕ)
  pub warnings : Warnings

-- a certificate and a script are given where a file of one is named
abbrev pub asked_of : (cert_file script_file : Option (List ℕ)) → Warnings → (text certificate script : List ℕ) → Asked
asked_of cert_file script_file warnings text certificate script =
    record { text = text; certificate = option_map (λ _. certificate) cert_file; script = option_map (λ _. script) script_file; warnings = warnings }

abbrev pub asked_by : Given → (text : List ℕ) → Asked
asked_by g text = asked_of (option_map string_bytes g.cert_file.now) (option_map string_bytes g.script_file.now) g.warnings
    text g.texts.now.certificate g.texts.now.script.items

-- a program text alone, without warnings
abbrev pub alone : (text : List ℕ) → Asked
alone text = asked_of None None Silent text [] []

-- nothing is said of a text that is not given
abbrev pub IfGiven : Option (List ℕ) → ((text : List ℕ) → List Diagnostic → Type 0) → List Diagnostic → Type 0
IfGiven None AreSaid said = said ≡ []
IfGiven (Some text) AreSaid said = AreSaid text said

-- there are no diagnostics
abbrev pub is_silent : List Diagnostic → Bool
is_silent [] = true
is_silent (d ∷ ds) = false

-- 0 where nothing is wrong
abbrev pub said_status : List Diagnostic → ℕ
said_status [] = 0
said_status (d ∷ ds) = 1

-- where nothing is wrong with a certificate alone, something is said exactly where the checker has more findings with it
-- than with the least one
abbrev pub IsFitSaid : (silent : Bool) → Listing → Result (List (List (ℕ × ℕ))) CertFault → List Diagnostic → Type 0
IsFitSaid true p (Ok cert) said =
    (least : List (List (ℕ × ℕ))) × IsLeast p least × ((said ≡ []) ↔ (length (all_rules p cert) ≤ length (all_rules p least)))
IsFitSaid silent p cert said = said ≡ []

-- what is wrong with a certificate alone, and whether it fits
pub record IsCertificateSaid (p : Listing) (certificate : List ℕ) (said : List Diagnostic) : Type 0 where
  pub alone : List Diagnostic
  pub judged : AreCertificateErrors p certificate alone
  pub further : List Diagnostic
  pub fits : IsFitSaid (is_silent alone) p (cert_parse certificate (names_of p)) further
  pub is : said ≡ alone ++ further

-- what could be better about marks: those that cost speed, and releases that may be forgotten
pub record AreAllWarnings (text : List ℕ) (p : Listing) (said : List Diagnostic) : Type 0 where
  pub least : List (List (ℕ × ℕ))
  pub is_least : IsLeast p least
  pub marks : List Diagnostic
  pub better : AreMarkWarnings text p least marks
  pub releases : List Diagnostic
  pub forgotten : All (IsForgotten text) releases
  pub is : said ≡ marks ++ releases

-- they are told where that is asked for
abbrev pub AreWarned : (asked : Bool) → (text : List ℕ) → Listing → List Diagnostic → Type 0
AreWarned false text p said = said ≡ []
AreWarned true text p said = AreAllWarnings text p said

-- there are warnings
abbrev pub are_told : Warnings → Bool
are_told Silent = false
are_told _ = true

-- The diagnostics for a program: for its marks, the certificate, and the script. What could be better about marks is
-- reported only where none is wrong, and leaves the status as it is. Errors of marks are told as they are, but for fixes that
-- are not right; the text with the others is what they propose to write, and it is said to be right exactly where its marks
-- are.
pub record IsProgramExplained (asked : Asked) (p : Listing) (e : Explanation) : Type 0 where
  pub errors : List Diagnostic
  pub wrong : AreMarkErrors asked.text errors
  pub told : List Diagnostic
  pub same : AreSameErrors told errors
  pub fixed : IfSome e.fixed (IsFixed asked.text errors)
  pub warned : List Diagnostic
  pub better : AreWarned (are_told asked.warnings && is_silent errors) asked.text p warned
  pub beside : List Diagnostic
  pub certified : IfGiven asked.certificate (IsCertificateSaid p) beside
  pub scripted : List Diagnostic
  pub played : IfGiven asked.script (AreScriptErrors p) scripted
  pub said : e.said ≡ in_order (told ++ (warned ++ (beside ++ scripted)))
  pub marked : IsSaidOf p e.marks
  pub status : e.status ≡ said_status (errors ++ (beside ++ scripted))

-- The diagnostics for a text that spells no program: the fault at which the assembler stops is among them; or only what it
-- is, if it begins as a certificate or a script of events does.
abbrev pub IsRefusedBy : Option Mistaken → (text : List ℕ) → AsmFault → List Diagnostic → Type 0
IsRefusedBy None text fault said = IsTold text fault said
IsRefusedBy (Some kind) text fault said = (d : Diagnostic) × IsErrorIn Program 1 d × (said ≡ d ∷ [])

-- The fix of the first error of the first fault is told where the assembler comes further with it, and the text with it is
-- kept; else that error is told in words alone.
pub record IsRefusedSaid (text : List ℕ) (fault : AsmFault) (e : Explanation) : Type 0 where
  pub errors : List Diagnostic
  pub wrong : IsRefusedBy (mistaken_kind text) text fault errors
  pub told : List Diagnostic
  pub same : AreSameErrors told errors
  pub fixed : IfSome e.fixed (IsFixedFurther text fault errors)
  pub words : e.fixed ≡ None → IsFirstInWords text fault told
  pub said : e.said ≡ in_order told
  pub marked : e.marks ≡ Unread
  pub status : e.status ≡ 1

abbrev pub IsReadExplained : Asked → Result Listing AsmFault → Explanation → Type 0
IsReadExplained asked (Ok p) e = IsProgramExplained asked p e
IsReadExplained asked (Err fault) e = IsRefusedSaid asked.text fault e

-- the diagnostics for what is asked about
abbrev pub IsExplained : Asked → Explanation → Type 0
IsExplained asked e = IsReadExplained asked (parse asked.text) e

-- the status: that of errors, or where warnings count, that of all that is said
abbrev pub final_status : Warnings → Explanation → ℕ
final_status AsErrors e = said_status e.said
final_status _ e = e.status

-- what `explain` answers; how it is written is not said here
pub record IsExplainReport (cert_file script_file : Option (List ℕ)) (warnings : Warnings) (text certificate script : List ℕ) (report : Report) : Type 0 where
  pub explained : Explanation
  pub is : IsExplained (asked_of cert_file script_file warnings text certificate script) explained
  pub status : report.status ≡ final_status warnings explained
