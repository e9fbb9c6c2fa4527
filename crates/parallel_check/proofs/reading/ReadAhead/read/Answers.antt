-- The text is that of the whole.
use Rattle.std.proofs.Common.{◌≡◌, ◌≢◌, ◌↔◌, ℕ, List, Ok, Err, subst}
use Rattle.mask_certificate.specs.declared.fault.CertFault.TheVariants.{OutOfMemory}
use Rattle.mask_certificate.specs.CertificateText.{Spells}
use Rattle.mask_certificate.specs.CertificateReading.{names_of}
use Rattle.parallel_check.proofs.reading.ReadAhead.read.Goals as goal

pub returns-clause-spelled : goal.returns-clause-spelled
returns-clause-spelled c =
    subst (λ (text : List ℕ). c.read_parts.result ≢ Err OutOfMemory → (cert : List (List (ℕ × ℕ))) → (c.read_parts.result ≡ Ok cert) ↔ Spells text (names_of c.args.program.now) cert)
    c.self.view_is c.read_parts.ensures.spelled
