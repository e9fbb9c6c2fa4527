-- The instructions so far are the same.
use Rattle.std.proofs.Common.{◌≡◌, take}
use Rattle.task_descriptor.proofs.same.is_same_code.Given as goal

abbrev pub invariant-loop-index : goal.invariant-loop-index
invariant-loop-index l = take l.index l.code ≡ take l.index l.other
