-- The first line lies in the first part.
use Rattle.std.proofs.Common.{sym, ◌∙◌, ap}
use Rattle.mask_certificate.specs.CertificateReading.{spelling_of}
use Rattle.mask_certificate.proofs.LeftLemmas.{spelling_left}
use Rattle.mask_certificate.proofs.reading.spelling_of_left.Goals as goal

pub returns-clause-value : goal.returns-clause-value
returns-clause-value c =
    c.spelling_in.ensures.value ∙ ap spelling_of c.rest.ensures.rest
    ∙ sym (spelling_left c.args.left.now.rest c.args.left.now.behind c.rest.ensures.cut c.rest.ensures.end)
