-- The task is the one that is read.
use Rattle.std.proofs.Common.{◌≡◌, Some, slice_get, refl, sym, ◌∙◌}
use Rattle.finding_paths.proofs.Reached.{never_exact, never_followed, task_there}
use Rattle.finding_paths.proofs.production.spare.Goals as goal

pub returns-then-has_target : goal.returns-then-has_target
returns-then-has_target c r =
    let p = c.args.program.now in
    let d = c.index-tasks-task.result in
    let there : slice_get p.tasks c.args.task ≡ Some d = task_there p c.tasks.result.now c.args.task d c.tasks.ensures.value c.requires.there c.index-tasks-task.is in
    never_exact p c.args.task r d.create c.produced.result c.minus.result d there refl (sym c.has_target.ensures ∙ c.if-has_target.true)
    (c.minus.ensures.members r) (c.produced.ensures d there r)

pub returns-else-has_target : goal.returns-else-has_target
returns-else-has_target c r =
    let p = c.args.program.now in
    let d = c.index-tasks-task.result in
    never_followed p c.args.task r c.empty.result d (task_there p c.tasks.result.now c.args.task d c.tasks.ensures.value c.requires.there c.index-tasks-task.is)
    (sym c.has_target.ensures ∙ c.if-has_target.false) (c.empty.ensures.members r)
