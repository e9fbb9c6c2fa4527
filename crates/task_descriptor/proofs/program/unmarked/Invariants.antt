-- The instructions so far, without their marks.
use Rattle.std.proofs.Common.{◌≡◌, map, take}
use Rattle.task_descriptor.proofs.program.unmarked.Given as goal

abbrev pub invariant-loop-marked : goal.invariant-loop-marked
invariant-loop-marked l = l.ops.items ≡ map (λ m. m.op) (take l.marked-index l.code)
