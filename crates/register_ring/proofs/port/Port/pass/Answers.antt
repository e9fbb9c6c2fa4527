-- By the search: named here, so that the check of a wrong body ends at this line.
use Rattle.std.proofs.Common.{rules}
use Rattle.register_ring.proofs.port.Port.pass.Goals as goal

pub returns-then-has : goal.returns-then-has
returns-then-has c = search rules
