-- There is no first fault exactly where the list is right.
use Rattle.mask_certificate.proofs.Telling.{tells_from}
use Rattle.mask_certificate.proofs.certificate.is_right.Goals as goal

pub returns : goal.returns
returns c = tells_from c.args.list.now c.fault_of.result c.is_none.result c.fault_of.ensures.first c.fault_of.ensures.masks c.is_none.ensures
