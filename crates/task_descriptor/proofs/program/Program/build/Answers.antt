-- By the search: named here, so that the check of a wrong body ends at this line.
use Rattle.std.proofs.Common.{rules}
use Rattle.task_descriptor.proofs.program.Program.build.Goals as goal

pub returns-in-Some : goal.returns-in-Some
returns-in-Some c = search rules
