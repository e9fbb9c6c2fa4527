-- The tasks so far.
use Rattle.std.proofs.Common.{◌≡◌, true, take}
use Rattle.std.specs.List.{All}
use Rattle.task_descriptor.specs.Names.{is_name}
use Rattle.task_descriptor.proofs.registers.all_have_names.Given as goal

abbrev pub invariant-loop-task : goal.invariant-loop-task
invariant-loop-task l = All (λ t. is_name t.name ≡ true) (take l.task-index l.tasks)
