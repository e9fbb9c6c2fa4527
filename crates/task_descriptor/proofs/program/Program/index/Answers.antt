-- By the search: named here, so that the check of a wrong body ends at this line.
use Rattle.std.proofs.Common.{rules}
use Rattle.task_descriptor.proofs.program.Program.index.Goals as goal

pub returns-then-index-len : goal.returns-then-index-len
returns-then-index-len c = search rules
