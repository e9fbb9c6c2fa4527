-- By the search: named here, so that the check of a wrong body ends at this line.
use Rattle.std.proofs.Common.{rules}
use Rattle.task_descriptor.proofs.marks.is_bad_mark.Goals as goal

pub returns-then-not-stop_fits : goal.returns-then-not-stop_fits
returns-then-not-stop_fits c = search rules

pub returns-else-not-stop_fits : goal.returns-else-not-stop_fits
returns-else-not-stop_fits c = search rules
