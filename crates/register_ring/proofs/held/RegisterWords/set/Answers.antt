-- By the search: named here, so that the check of a wrong body ends at this line.
use Rattle.std.proofs.Common.{rules}
use Rattle.register_ring.proofs.held.RegisterWords.set.Goals as goal

pub returns-clause-value : goal.returns-clause-value
returns-clause-value c = search rules
