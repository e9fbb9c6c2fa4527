-- One name more goes last, as it is none of those before it, and at the end all are there.
use Rattle.std.proofs.Common.{map, string_bytes, ◌∙◌, ap}
use Rattle.event_script.proofs.NamesApart.{goes_last}
use Rattle.event_script.proofs.task_names.TaskNames.of.Goals as goal

pub loop-task-preserved : goal.loop-task-preserved
loop-task-preserved c =
    ap (map string_bytes) c.in_ok-insert.ensures.keys
    ∙ goes_last c.args.tasks.now c.loop-task.task-index c.task-item.result c.in_ok-from_str.field-0 c.loop-task.names.keys
    c.loop-task-test.true c.requires c.task-item.is (c.in_ok-from_str.ensures.ok ∙ c.as_str.ensures.text) c.loop-task.invariant
