-- One task more.
use Rattle.std.proofs.Common.{◌≡◌, true, take, subst, arith}
use Rattle.std.specs.List.{All}
use Rattle.std.proofs.lemmas.List.{take_all}
use Rattle.std.proofs.lemmas.List.Elements.{All-more}
use Rattle.task_descriptor.specs.Names.{is_name}
use Rattle.task_descriptor.specs.declared.descriptor.Descriptor.{Descriptor}
use Rattle.task_descriptor.proofs.registers.all_have_names.Goals as goal

pub loop-task-preserved : goal.loop-task-preserved
loop-task-preserved c =
    All-more (λ (t : Descriptor). is_name t.name ≡ true) c.args.tasks.now c.loop-task.task-index c.task-item.result c.loop-task-test.true c.loop-task.invariant
    (subst (λ (t : Descriptor). is_name t.name ≡ true) c.task-item.is c.has_name.ensures)

pub returns : goal.returns
returns c = subst (All (λ (t : Descriptor). is_name t.name ≡ true)) (take_all c.loop-task.task-index c.args.tasks.now (omega arith)) c.loop-task.invariant
