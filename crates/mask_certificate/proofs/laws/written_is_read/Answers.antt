-- By the lines that the text is cut into.
use Rattle.mask_certificate.proofs.AgainLemmas.{certificate_again}
use Rattle.mask_certificate.proofs.laws.written_is_read.Goals as goal

pub returns : goal.returns
returns c = certificate_again
