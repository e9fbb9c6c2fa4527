-- By the search: named here, so that the check of a wrong body ends at this line.
use Rattle.std.proofs.Common.{rules}
use Rattle.register_ring.proofs.held.RegisterWords.all_but.Goals as goal

pub returns : goal.returns
returns c = search rules
