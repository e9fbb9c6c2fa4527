-- What a job continues with, as a judgement. No public contract but that of `judge` cites it.
use Rattle.std.specs.Prelude.{◌≡◌, ℕ, List, Ok}
use Rattle.task_descriptor.specs.Listing.{Listing}
use Rattle.mask_certificate.specs.CertificateText.{cert_text}
use Rattle.mask_certificate.specs.CertificateReading.{cert_parse, names_of}
use Rattle.mark_checker.specs.Rules.{all_rules}
use Rattle.annotator.specs.Least.{IsLeast}
use Rattle.report_texts.specs.JudgedTexts.{Judgement, refused, accepted, findings_judged}
use Rattle.report_texts.specs.declared.judging.Judged.{Judged}
use Rattle.report_texts.specs.declared.judging.Judged.TheVariants.{Refused, Accepted}

abbrev pub as_judgement : Judged → Judgement
as_judgement (Refused report) = refused report
as_judgement (Accepted checked) = accepted checked.program

-- a certificate with the least masks of a program, whose text is read as it
pub record IsKept (p : Listing) (cert : List (List (ℕ × ℕ))) : Type 0 where
  pub least : IsLeast p cert
  pub read : cert_parse (cert_text cert (names_of p)) (names_of p) ≡ Ok cert

-- the judgement of a program by its least certificate
pub record IsLeastJudged (p : Listing) (judged : Judgement) : Type 0 where
  pub certificate : List (List (ℕ × ℕ))
  pub kept : IsKept p certificate
  pub found : judged ≡ findings_judged p (all_rules p certificate)
