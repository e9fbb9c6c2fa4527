-- Place by place.
use Rattle.std.proofs.Common.{refl, arith}
use Rattle.task_descriptor.proofs.SameLists.{same_more, same_whole}
use Rattle.task_descriptor.proofs.same.are_same_tasks.Goals as goal

pub loop-index-preserved : goal.loop-index-preserved
loop-index-preserved c =
    same_more c.args.tasks.now c.args.others.now c.loop-index.index c.if-tasks-others.false c.index-tasks-index.result c.index-others-index.result
    c.loop-index-test.true c.index-tasks-index.is c.index-others-index.is (c.if-not-is_same_task.ensures.0 refl) c.loop-index.invariant

pub returns : goal.returns
returns c = (λ _. same_whole c.args.tasks.now c.args.others.now c.loop-index.index c.if-tasks-others.false c.loop-index-test.false c.loop-index.invariant, λ _. refl)
