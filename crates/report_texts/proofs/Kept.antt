-- A least certificate that is written is read again, so a judgement by it is one by its text.
use Rattle.std.proofs.Common.{◌≡◌, ◌∙◌, ℕ, true, List, [], Result, Ok, Err, IfOk, length, refl, sym, ap, subst}
use Rattle.std.proofs.lemmas.List.{length-map}
use Rattle.std.proofs.lemmas.List.Elements.{All-map}
use Rattle.std.specs.declared.alloc.AllocError.{AllocError}
use Rattle.task_descriptor.specs.Names.{is_name}
use Rattle.task_descriptor.specs.declared.descriptor.Descriptor.{Descriptor}
use Rattle.task_descriptor.specs.Listing.{Listing, IsWellFormed}
use Rattle.annotated_asm.specs.declared.fault.AsmFault.{AsmFault}
use Rattle.annotated_asm.specs.declared.fault.AsmFault.TheVariants as asm
use Rattle.annotated_asm.specs.ProgramText.{parse}
use Rattle.annotated_asm.specs.Steps.{FailsText}
use Rattle.mask_certificate.specs.CertificateText.{cert_text}
use Rattle.mask_certificate.specs.CertificateReading.{names_of, AreNames}
use Rattle.mark_checker.specs.Rules.{all_rules}
use Rattle.jobs.specs.declared.job.CertificateSource.{CertificateSource}
use Rattle.jobs.specs.declared.job.CertificateSource.TheVariants.{File, Least}
use Rattle.jobs.specs.declared.job.Emit.TheVariants.{Keep}
use Rattle.report_texts.specs.OutputTexts.{Report, program_refused}
use Rattle.report_texts.specs.AnnotateText.{IsAnnotateRead}
use Rattle.report_texts.specs.CheckText.{check_text}
use Rattle.report_texts.specs.VerdictTexts.{program_accepted}
use Rattle.report_texts.specs.CertificateTexts.{OfCertificate}
use Rattle.report_texts.specs.Judging.{IsKept, IsLeastJudged, as_judgement}
use Rattle.report_texts.specs.declared.judging.Judged.{Judged}
use Rattle.report_texts.specs.JudgedTexts.{Judgement, refused, certificate_judged, findings_judged, goes_on, judgement, program_judged}

-- what follows of the text of a certificate
pub followed : (source : CertificateSource) (program file : List ℕ) (A B : List ℕ → Type 0) → ((text : List ℕ) → A text → B text)
    → OfCertificate source program file A → OfCertificate source program file B
followed File program file A B f a = f file a
followed Least program file A B f a = (a.0, a.1, f a.0.bytes a.2)

-- a program text that is refused is refused with any certificate
pub refused_with_any : (source : CertificateSource) (program file : List ℕ) (fault : AsmFault) → parse program ≡ Err fault
    → OfCertificate source program file (λ text. judgement program text ≡ refused (program_refused fault))
refused_with_any File program file fault is = ap (λ (r : Result Listing AsmFault). program_judged r file) is
refused_with_any Least program file fault is = (
  program_refused fault,
  subst (λ (r : Result Listing AsmFault). IsAnnotateRead Keep program r (program_refused fault)) (sym is) refl,
  ap (λ (r : Result Listing AsmFault). program_judged r (program_refused fault).bytes) is,
)

-- the text that `annotate --emit keep` writes
abbrev kept_text : Listing → List (List (ℕ × ℕ)) → Report
kept_text p cert = record { bytes = cert_text cert (names_of p); status = 0 }

pub judged_by_kept : (program file : List ℕ) (p : Listing) (cert : List (List (ℕ × ℕ))) → parse program ≡ Ok p → IsKept p cert
    → OfCertificate Least program file (λ text. judgement program text ≡ findings_judged p (all_rules p cert))
judged_by_kept program file p cert is kept = (
  kept_text p cert,
  subst (λ (r : Result Listing AsmFault). IsAnnotateRead Keep program r (kept_text p cert)) (sym is)
      (record { certificate = cert; least = kept.least; written = refl }, refl),
  ap (λ (r : Result Listing AsmFault). program_judged r (cert_text cert (names_of p))) is ∙ ap (certificate_judged p) kept.read,
)

-- what holds by the source that it is
pub by_file : (source : CertificateSource) (program file : List ℕ) (Holds : List ℕ → Type 0) → source ≡ File → Holds file → OfCertificate source program file Holds
by_file File program file Holds is h = h
by_file Least program file Holds is h = absurd (cc)

pub by_least : (source : CertificateSource) (program file : List ℕ) (Holds : List ℕ → Type 0) → source ≡ Least → OfCertificate Least program file Holds
    → OfCertificate source program file Holds
by_least File program file Holds is h = absurd (cc)
by_least Least program file Holds is h = h

-- the names of a program's tasks are names, one for each
pub are_names : (p : Listing) → IsWellFormed p → AreNames (names_of p)
are_names p well = All-map (λ (name : List ℕ). is_name name ≡ true) (λ (task : Descriptor). task.name) p.tasks well.in_range.names

pub are_as_many : (p : Listing) → length p.tasks ≡ length (names_of p)
are_as_many p = sym (length-map p.tasks (λ (task : Descriptor). task.name))

-- what follows of a result that is there
pub where_ok : {X : Type 0} (result : Result X AllocError) (A B : X → Type 0) → ((x : X) → A x → B x) → IfOk result A → IfOk result B
where_ok (Ok x) A B f a = f x a
where_ok (Err e) A B f a = tt

-- a judgement by the least certificate is one by its text
pub least_judged : (program file : List ℕ) (p : Listing) (j : Judged) → parse program ≡ Ok p → IsLeastJudged p (as_judgement j)
    → OfCertificate Least program file (λ text. as_judgement j ≡ judgement program text)
least_judged program file p j is h =
    followed Least program file (λ text. judgement program text ≡ findings_judged p (all_rules p h.certificate)) (λ text. as_judgement j ≡ judgement program text)
    (λ text by. h.found ∙ sym by) (judged_by_kept program file p h.certificate is h.kept)

-- so what `check` writes by the least certificate is what it writes by its text
pub least_checked : (program file : List ℕ) (p : Listing) (cert : List (List (ℕ × ℕ))) (report : Report) → parse program ≡ Ok p → IsKept p cert
    → report ≡ goes_on program_accepted (findings_judged p (all_rules p cert)) → OfCertificate Least program file (λ text. report ≡ check_text program text)
least_checked program file p cert report is kept h =
    followed Least program file (λ text. judgement program text ≡ findings_judged p (all_rules p cert)) (λ text. report ≡ check_text program text)
    (λ text by. h ∙ sym (ap (goes_on program_accepted) by)) (judged_by_kept program file p cert is kept)

pub refused_checked : (program file : List ℕ) (fault : AsmFault) (report : Report) → parse program ≡ Err fault → report ≡ program_refused fault
    → OfCertificate Least program file (λ text. report ≡ check_text program text)
refused_checked program file fault report is h =
    followed Least program file (λ text. judgement program text ≡ refused (program_refused fault)) (λ text. report ≡ check_text program text)
    (λ text by. h ∙ sym (ap (goes_on program_accepted) by)) (refused_with_any Least program file fault is)

-- a fault that is told is that of the text, where memory did not run out
pub told : (fault : AsmFault) (read : Result Listing AsmFault) → (fault ≡ asm.OutOfMemory → ⊥) → FailsText fault read → read ≡ Err fault
told asm.TooLong read some h = h
told (asm.NotAscii n) read some h = h
told (asm.Token n) read some h = h
told (asm.Mnemonic n) read some h = h
told (asm.Operand n) read some h = h
told (asm.Number n) read some h = h
told (asm.Mark n) read some h = h
told (asm.Duplicate n) read some h = h
told (asm.Unknown n) read some h = h
told (asm.Build fault) read some h = h
told asm.OutOfMemory read some h = absurd (some refl)
