-- By the search: named here, so that the check of a wrong body ends at this line.
use Rattle.std.proofs.Common.{rules}
use Rattle.register_ring.proofs.port.Port.fill.Goals as goal

pub returns-clause-arrived : goal.returns-clause-arrived
returns-clause-arrived c = search rules

pub returns-clause-sent : goal.returns-clause-sent
returns-clause-sent c = search rules
