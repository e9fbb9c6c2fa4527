-- What is read is put together again, and what is spelled is read again.
use Rattle.mask_certificate.proofs.ReadLemmas.{parse_is_spelled}
use Rattle.mask_certificate.proofs.laws.read_is_spelled.Goals as goal

pub returns : goal.returns
returns c = parse_is_spelled
