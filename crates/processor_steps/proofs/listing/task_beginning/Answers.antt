use Rattle.std.proofs.Common.{◌≡◌, List, length, ap, arith}
use Rattle.task_descriptor.specs.WellFormed.{limits}
use Rattle.task_descriptor.specs.declared.descriptor.Descriptor.{Descriptor}
use Rattle.processor_steps.proofs.listing.task_beginning.Goals as goal

-- a program has at most 1,024 tasks
pub overflow_cast-result : goal.overflow_cast-result
overflow_cast-result c =
    let p = c.args.program.now in
    let same : length c.tasks-tasks.result.now ≡ length p.tasks = ap (λ (x : List Descriptor). length x) c.tasks-tasks.ensures.value in
    omega (arith, c.in-Some.ensures.within, (limits p c.tasks-tasks.ensures.well_formed).tasks)
