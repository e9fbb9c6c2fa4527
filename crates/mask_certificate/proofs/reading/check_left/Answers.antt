-- At the end of a part nothing is left.
use Rattle.std.proofs.Common.{◌≡◌, ℕ, List, [], Result, Ok, Err, sym, ◌∙◌, ap, subst}
use Rattle.std.specs.Prelude.{MatchResult}
use Rattle.mask_certificate.specs.declared.fault.CertFault.{CertFault}
use Rattle.mask_certificate.specs.CertificateReading.{lines_in, at_end}
use Rattle.mask_certificate.proofs.LeftLemmas.{left_end}
use Rattle.mask_certificate.proofs.reading.check_left.Goals as goal

pub returns : goal.returns
returns c = λ spelling.
    let left = c.args.left.now in
    subst (λ (found : Result (List (List (ℕ × ℕ))) CertFault). MatchResult c.check_end.result (λ _. found ≡ Ok []) (λ fault. found ≡ Err fault))
    (ap (λ (t : List ℕ). at_end c.args.line (lines_in spelling t)) c.rest.ensures.rest
    ∙ sym (left_end spelling left.rest left.behind c.rest.ensures.cut c.rest.ensures.end c.args.line))
    (c.check_end.ensures spelling)
