-- The names so far, with those of the tasks that are left, are those of all.
use Rattle.std.proofs.Common.{◌≡◌, drop}
use Rattle.std.specs.Hash.DefaultHasher as sip
use Rattle.event_script.specs.NameKeys.{after_names}
use Rattle.event_script.proofs.name_key.NameKey.of.Given as goal

abbrev pub invariant-loop-task : goal.invariant-loop-task
invariant-loop-task l = after_names l.names (drop l.task-index l.tasks) ≡ after_names sip.initial l.tasks
