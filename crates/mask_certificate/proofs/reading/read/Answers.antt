-- A text in one part is that part.
use Rattle.std.proofs.Common.{◌≡◌, ◌≢◌, ◌↔◌, ℕ, List, [], ◌∷◌, ◌++◌, Ok, Err, ◌∙◌, ap, subst}
use Rattle.std.proofs.lemmas.List.{append-nil}
use Rattle.text_pieces.specs.Pieces.{joined}
use Rattle.mask_certificate.specs.declared.fault.CertFault.TheVariants.{OutOfMemory}
use Rattle.mask_certificate.specs.CertificateText.{Spells}
use Rattle.mask_certificate.specs.CertificateReading.{names_of}
use Rattle.mask_certificate.proofs.reading.read.Goals as goal

pub returns-clause-spelled : goal.returns-clause-spelled
returns-clause-spelled c =
    let whole : joined c.push.new.self.items ≡ c.args.text.now =
    ap joined c.in_ok-push.ensures.items
    ∙ ap (λ (parts : List (List ℕ)). joined (parts ++ c.new.result ∷ [])) c.new-parts.ensures.items
    ∙ ap (λ (text : List ℕ). joined (text ∷ [])) c.new.ensures
    ∙ append-nil c.args.text.now in
    subst (λ (text : List ℕ). c.read_parts.result ≢ Err OutOfMemory
    → (cert : List (List (ℕ × ℕ))) → (c.read_parts.result ≡ Ok cert) ↔ Spells text (names_of c.args.program.now) cert) whole c.read_parts.ensures.spelled
