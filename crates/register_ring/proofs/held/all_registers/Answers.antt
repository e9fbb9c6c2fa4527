use Rattle.register_ring.proofs.PortLemmas.{has_all}
use Rattle.register_ring.proofs.held.all_registers.Goals as goal

pub returns : goal.returns
returns c r below = has_all c.in-Some.all r c.in-Some.ensures.value below
