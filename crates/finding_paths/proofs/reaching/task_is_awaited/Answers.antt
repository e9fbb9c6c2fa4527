-- The task has a mask there, and its targets are those that are read.
use Rattle.mask_certificate.specs.Lists.{list_of, mask_at}
use Rattle.finding_paths.proofs.Reached.{awaited_exact, some_mask, task_there}
use Rattle.finding_paths.proofs.reaching.task_is_awaited.Goals as goal

pub returns : goal.returns
returns c =
    let p = c.args.program.now in
    let d = c.index-tasks-task.result in
    awaited_exact p c.args.cert.now c.args.task c.args.index d c.has_target.result c.requires.least
    (task_there p c.tasks.result.now c.args.task d c.tasks.ensures.value c.requires.there c.index-tasks-task.is)
    (some_mask c.mask.result (mask_at (list_of c.args.cert.now c.args.task) c.args.index) c.is_none.result c.mask.ensures c.is_none.ensures c.if-is_none.false)
    c.has_target.ensures
