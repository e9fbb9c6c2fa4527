-- By the search: named here, so that the check of a wrong body ends at this line.
use Rattle.std.proofs.Common.{rules}
use Rattle.register_ring.proofs.port.Port.arrived_set.Goals as goal

pub returns : goal.returns
returns c = search rules
