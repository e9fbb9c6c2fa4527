-- One task more.
use Rattle.std.proofs.Common.{◌≡◌, ℕ, List, length, ap, subst, arith}
use Rattle.task_descriptor.specs.declared.descriptor.Descriptor.{Descriptor}
use Rattle.finding_paths.specs.Candidates.{up_to, of_task}
use Rattle.finding_paths.specs.Steps.{Adds}
use Rattle.finding_paths.proofs.Picking.{up_to_none, up_to_more}
use Rattle.finding_paths.proofs.search.add_of_tasks.Goals as goal

pub loop-task-init : goal.loop-task-init
loop-task-init c = up_to_none c.args.program.now of_task c.args.list.now.items

pub loop-task-preserved : goal.loop-task-preserved
loop-task-preserved c =
    up_to_more c.args.program.now of_task c.loop-task.task c.args.list.now.items c.loop-task.list.items c.add_of_task.new.list.items c.loop-task.invariant c.in_ok-add_of_task.ensures

pub returns : goal.returns
returns c =
    let p = c.args.program.now in
    let count : length c.tasks-task-end.result.now ≡ length p.tasks = ap (λ (ts : List Descriptor). length ts) c.tasks-task-end.ensures.value in
    let end : c.loop-task.task ≡ length p.tasks = omega arith in
    subst (λ (n : ℕ). Adds p (up_to of_task n) c.args.list.now.items c.loop-task.list.items) end c.loop-task.invariant
