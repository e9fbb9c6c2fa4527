-- What is written and what is left give what there was to write.
use Rattle.std.proofs.Common.{◌≡◌, ◌++◌, drop}
use Rattle.std.specs.String.{string_bytes}
use Rattle.task_lives.specs.Counting.{rows_from}
use Rattle.task_lives.proofs.summary.write_rows.Given as goal

abbrev pub invariant-loop-task : goal.invariant-loop-task
invariant-loop-task l =
    string_bytes l.text ++ rows_from l.tallies l.task (drop l.task l.tasks)
    ≡ string_bytes l.initial.text ++ rows_from l.tallies 0 l.tasks
