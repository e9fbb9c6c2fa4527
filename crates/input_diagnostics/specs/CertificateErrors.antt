-- What is said of a certificate that is given beside a program.
use Rattle.std.specs.Prelude.{◌≡◌, ◌↔◌, ℕ, Bool, List, [], nat_le, filter, Result, Ok, Err, IsSomeAnd, slice_get}
use Rattle.task_descriptor.specs.Listing.{Listing}
use Rattle.mask_certificate.specs.declared.fault.CertFault.{CertFault}
use Rattle.mask_certificate.specs.declared.fault.CertFault.TheVariants.{Header, Line, TaskName}
use Rattle.mask_certificate.specs.CertificateReading.{cert_parse, names_of}
use Rattle.mark_checker.specs.Numbers.{number_of}
use Rattle.mark_checker.specs.Rules.{all_rules}
use Rattle.mark_checker.specs.declared.finding.Finding.{Finding}
use Rattle.diagnostics.specs.declared.diagnostic.Diagnostic.{Diagnostic}
use Rattle.diagnostics.specs.declared.diagnostic.Source.TheVariants.{Certificate}
use Rattle.input_diagnostics.specs.Advice.{IsErrorIn, IsErrorOf}

-- the findings of the rules that judge the certificate alone: rules 1 to 4
abbrev pub is_own : Finding → Bool
is_own f = nat_le (number_of f.rule) 4

abbrev pub own_findings : Listing → (cert : List (List (ℕ × ℕ))) → List Finding
own_findings p cert = filter is_own (all_rules p cert)

-- an error for which a certificate is refused: in the refusal's line, where it has one
abbrev pub IsAt : CertFault → Diagnostic → Type 0
IsAt Header d = IsErrorIn Certificate 1 d
IsAt (Line n) d = IsErrorIn Certificate n d
IsAt (TaskName n) d = IsErrorIn Certificate n d
IsAt fault d = IsErrorOf Certificate d

-- Nothing is said exactly where the text is a certificate in which the rules 1 to 4 find nothing; where it is refused, the first
-- error is the refusal's.
abbrev pub AreErrorsBy : Listing → Result (List (List (ℕ × ℕ))) CertFault → List Diagnostic → Type 0
AreErrorsBy p (Ok cert) said = (said ≡ []) ↔ (own_findings p cert ≡ [])
AreErrorsBy p (Err fault) said = IsSomeAnd (slice_get said 0) (IsAt fault)

abbrev pub AreCertificateErrors : Listing → (text : List ℕ) → List Diagnostic → Type 0
AreCertificateErrors p text said = AreErrorsBy p (cert_parse text (names_of p)) said
