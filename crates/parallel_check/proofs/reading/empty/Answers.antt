-- No group has a block.
use Rattle.parallel_check.proofs.Groups.{none_in}
use Rattle.parallel_check.proofs.reading.empty.Goals as goal

pub returns-clause-none : goal.returns-clause-none
returns-clause-none c = none_in c.loop.groups.items c.loop.invariant.0
