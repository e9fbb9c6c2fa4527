use Rattle.annotator.proofs.Imports.{◌≡◌, ℕ, List, length, get_or, take, sym, ◌∙◌, ap, subst, arith, take_all, get_or_default, with_creates}
use Rattle.annotator.proofs.Remarked.{creates_left, creates_set}
use Rattle.annotator.proofs.propose.set_creates.Goals as goal

pub loop-task-init : goal.loop-task-init
loop-task-init c = sym (creates_left c.args.tasks.now)

pub loop-task-preserved : goal.loop-task-preserved
loop-task-preserved c =
    creates_set c.args.tasks.now c.loop-task.tasks c.args.creates.now c.loop-task.task c.index-creates-task.result c.index-tasks-task.result c.loop-task-test.true c.requires c.loop-task.invariant
    (c.index-creates-task.is ∙ get_or_default c.args.creates.now c.loop-task.task c.index-creates-task.result 0 c.loop-task-test.true)

pub returns : goal.returns
returns c = c.loop-task.invariant ∙ ap (λ (creates : List ℕ). with_creates c.args.tasks.now creates) (take_all c.loop-task.task c.args.creates.now (omega arith))
