-- The tasks so far are the same.
use Rattle.std.proofs.Common.{◌≡◌, take}
use Rattle.task_descriptor.proofs.same.are_same_tasks.Given as goal

abbrev pub invariant-loop-index : goal.invariant-loop-index
invariant-loop-index l = take l.index l.tasks ≡ take l.index l.others
