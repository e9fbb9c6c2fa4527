-- One task more.
use Rattle.canonical_text.proofs.Imports.{arith, IsTaskInRange}
use Rattle.canonical_text.proofs.Loops.{all_more, all_done}
use Rattle.canonical_text.proofs.ranges.tasks_in_range.Goals as goal

pub loop-task-preserved : goal.loop-task-preserved
loop-task-preserved c =
    all_more IsTaskInRange c.args.tasks.now c.loop-task.task-index c.task-item.result (omega arith) c.task-item.is c.task_in_range.ensures c.loop-task.invariant

pub returns : goal.returns
returns c = all_done IsTaskInRange c.args.tasks.now c.loop-task.task-index (omega arith) c.loop-task.invariant
