-- By the search: named here, so that the check of a wrong body ends at this line.
use Rattle.std.proofs.Common.{rules}
use Rattle.register_ring.proofs.held.RegisterWords.fill.Goals as goal

pub returns : goal.returns
returns c = search rules
