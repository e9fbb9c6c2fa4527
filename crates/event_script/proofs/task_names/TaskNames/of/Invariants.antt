-- The names so far, in the order of their tasks.
use Rattle.std.proofs.Common.{◌≡◌, take, map, string_bytes}
use Rattle.event_script.specs.EventScript.{names_in}
use Rattle.event_script.proofs.task_names.TaskNames.of.Given as goal

abbrev pub invariant-loop-task : goal.invariant-loop-task
invariant-loop-task l = map string_bytes l.names.keys ≡ names_in (take l.task-index l.tasks)
