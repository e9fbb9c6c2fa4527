-- How a program text and the text of its certificate are judged, and in which order: a
-- program that is refused, a certificate that is refused, what the rules find, or a program in which they
-- find nothing.
use Rattle.std.specs.Prelude.{ℕ, List, [], ◌∷◌, Result, Ok, Err}
use Rattle.task_descriptor.specs.Listing.{Listing}
use Rattle.annotated_asm.specs.declared.fault.AsmFault.{AsmFault}
use Rattle.annotated_asm.specs.ProgramText.{parse}
use Rattle.mask_certificate.specs.declared.fault.CertFault.{CertFault}
use Rattle.mask_certificate.specs.CertificateReading.{cert_parse, names_of}
use Rattle.mark_checker.specs.declared.finding.Finding.{Finding}
use Rattle.mark_checker.specs.Rules.{all_rules}
use Rattle.report_texts.specs.OutputTexts.{Report, program_refused}
use Rattle.report_texts.specs.VerdictTexts.{certificate_refused, program_found}

-- what is written for the two texts, or the program in which nothing is found
pub data Judgement : Type 0 where
  refused : Report → Judgement
  accepted : Listing → Judgement

abbrev pub findings_judged : Listing → List Finding → Judgement
findings_judged p [] = accepted p
findings_judged p (finding ∷ more) = refused (program_found p (finding ∷ more))

abbrev pub certificate_judged : Listing → Result (List (List (ℕ × ℕ))) CertFault → Judgement
certificate_judged p (Ok cert) = findings_judged p (all_rules p cert)
certificate_judged p (Err fault) = refused (certificate_refused fault)

abbrev pub program_judged : Result Listing AsmFault → (certificate : List ℕ) → Judgement
program_judged (Ok p) certificate = certificate_judged p (cert_parse certificate (names_of p))
program_judged (Err fault) certificate = refused (program_refused fault)

abbrev pub judgement : (program certificate : List ℕ) → Judgement
judgement program certificate = program_judged (parse program) certificate

-- what a job writes that continues with a program in which nothing is found
abbrev pub goes_on : (rest : Listing → Report) → Judgement → Report
goes_on rest (refused report) = report
goes_on rest (accepted p) = rest p

abbrev pub judged : (rest : Listing → Report) → (program certificate : List ℕ) → Report
judged rest program certificate = goes_on rest (judgement program certificate)
