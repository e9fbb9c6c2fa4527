-- The tasks so far are written, each on a line of its own.
use Rattle.canonical_text.proofs.Imports.{◌≡◌, ◌++◌, take, string_bytes, flat_map, task_line}
use Rattle.canonical_text.proofs.print.write_tasks.Given as goal

abbrev pub invariant-loop-task : goal.invariant-loop-task
invariant-loop-task l =
    string_bytes l.text ≡ string_bytes l.initial.text ++ flat_map (task_line l.tasks) (take l.task-index l.tasks)
