-- The text of `annotate`: the program with the marks that are proposed for it, in canonical form or in the
-- author's own text, or least masks.
use Rattle.std.specs.Prelude.{◌≡◌, ℕ, List, [], ◌∷◌, ◌++◌, codes, Option, Some, None, Result, Ok, Err}
use Rattle.task_descriptor.specs.Listing.{Listing}
use Rattle.annotated_asm.specs.declared.fault.AsmFault.{AsmFault}
use Rattle.annotated_asm.specs.ProgramText.{parse}
use Rattle.canonical_text.specs.CanonicalText.{canonical_text}
use Rattle.mask_certificate.specs.CertificateText.{cert_text}
use Rattle.mask_certificate.specs.CertificateReading.{names_of}
use Rattle.annotator.specs.Least.{IsLeast}
use Rattle.annotator.specs.Proposed.{IsProposed}
use Rattle.canonical_text.specs.FaultText.{marks_fault_text}
use Rattle.canonical_text.specs.MarkedText.{IsAnswer}
use Rattle.canonical_text.specs.declared.fault.MarksFault.{MarksFault}
use Rattle.canonical_text.specs.declared.fault.MarksFault.TheVariants as marks_fault
use Rattle.jobs.specs.declared.job.Emit.{Emit}
use Rattle.jobs.specs.declared.job.Emit.TheVariants.{Text, Cert, Keep, Marks}
use Rattle.report_texts.specs.OutputTexts.{Report, program_refused}

-- the bytes are the canonical text of the program that is proposed for p
pub record IsProposalText (p : Listing) (bytes : List ℕ) : Type 0 where
  pub proposed : Listing
  pub right : IsProposed p proposed
  pub written : bytes ≡ canonical_text proposed

-- the bytes are a certificate of the program p, with the least masks, in `cert 2`
pub record IsLeastText (p : Listing) (bytes : List ℕ) : Type 0 where
  pub certificate : List (List (ℕ × ℕ))
  pub least : IsLeast p certificate
  pub written : bytes ≡ cert_text certificate (names_of p)

-- the bytes are such a certificate of the program that is proposed for p
pub record IsProposalCertificate (p : Listing) (bytes : List ℕ) : Type 0 where
  pub proposed : Listing
  pub right : IsProposed p proposed
  pub certified : IsLeastText proposed bytes

-- why the author's text does not get these marks
abbrev pub marks_refused : MarksFault → Report
marks_refused fault = record { bytes = codes "marks refused: " ++ (marks_fault_text fault ++ 10 ∷ []); status = 1 }

-- what is written for an answer; running out of memory is none
abbrev pub marks_report : Result (List ℕ) MarksFault → Option Report
marks_report (Ok bytes) = Some (record { bytes = bytes; status = 0 })
marks_report (Err marks_fault.OutOfMemory) = None
marks_report (Err fault) = Some (marks_refused fault)

-- the report is of the author's text with the marks of the program q
pub record IsMarksAnswer (text : List ℕ) (q : Listing) (report : Report) : Type 0 where
  pub answer : Result (List ℕ) MarksFault
  pub right : IsAnswer text q answer
  pub written : marks_report answer ≡ Some report

-- the report is of the author's text with the marks that are proposed for its program p
pub record IsMarksReport (text : List ℕ) (p : Listing) (report : Report) : Type 0 where
  pub proposed : Listing
  pub right : IsProposed p proposed
  pub marked : IsMarksAnswer text proposed report

-- the report is these bytes, with status 0
abbrev pub IsWritten : (List ℕ → Type 0) → Report → Type 0
IsWritten Is report = Is report.bytes × (report.status ≡ 0)

-- what `annotate` writes for a text that spells the program p: the proposal, the proposal's certificate, that of
-- the program as it stands, or the text itself with other marks
abbrev pub IsAnnotation : Emit → List ℕ → Listing → Report → Type 0
IsAnnotation Text text p report = IsWritten (IsProposalText p) report
IsAnnotation Cert text p report = IsWritten (IsProposalCertificate p) report
IsAnnotation Keep text p report = IsWritten (IsLeastText p) report
IsAnnotation Marks text p report = IsMarksReport text p report

abbrev pub IsAnnotateRead : Emit → List ℕ → Result Listing AsmFault → Report → Type 0
IsAnnotateRead emit text (Ok p) report = IsAnnotation emit text p report
IsAnnotateRead emit text (Err fault) report = report ≡ program_refused fault

-- what `annotate` writes for a program text
abbrev pub IsAnnotateReport : Emit → List ℕ → Report → Type 0
IsAnnotateReport emit text report = IsAnnotateRead emit text (parse text) report
