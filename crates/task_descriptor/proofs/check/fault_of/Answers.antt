-- By the search: named here, so that the check of a wrong body ends at this line.
use Rattle.std.proofs.Common.{rules}
use Rattle.task_descriptor.proofs.check.fault_of.Goals as goal

pub returns-then-has_bad_mask : goal.returns-then-has_bad_mask
returns-then-has_bad_mask c = search rules
