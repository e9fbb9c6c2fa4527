-- By the search: named here, so that the check of a wrong body ends at this line.
use Rattle.std.proofs.Common.{rules}
use Rattle.register_ring.proofs.port.Port.take_sent.Goals as goal

pub returns-clause-sent : goal.returns-clause-sent
returns-clause-sent c = search rules
