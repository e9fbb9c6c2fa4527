-- What was read ahead is of the pieces of this text.
use Rattle.std.proofs.Common.{◌≡◌, ◌≢◌, ◌↔◌, ℕ, List, Ok, Err, Bor, map, subst, ap, ◌∙◌}
use Rattle.mask_certificate.specs.declared.fault.CertFault.TheVariants.{OutOfMemory}
use Rattle.mask_certificate.specs.CertificateText.{Spells}
use Rattle.mask_certificate.specs.CertificateReading.{names_of}
use Rattle.text_pieces.specs.Pieces.{joined}
use Rattle.parallel_check.proofs.reading.read_shared.Goals as goal

pub returns-clause-spelled : goal.returns-clause-spelled
returns-clause-spelled g c =
    subst (λ (text : List ℕ). c.read.result ≢ Err OutOfMemory → (cert : List (List (ℕ × ℕ))) → (c.read.result ≡ Ok cert) ↔ Spells text (names_of c.args.program.now) cert)
    (c.in_ok-new.ensures ∙ (ap (λ (pieces : List (Bor (List ℕ))). joined (map (λ piece. piece.now) pieces)) c.deref.ensures.value ∙ c.in_ok-pieces.ensures.joined)) c.read.ensures.spelled
