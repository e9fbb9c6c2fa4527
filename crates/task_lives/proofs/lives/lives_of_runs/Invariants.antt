-- The runs so far were followed.
use Rattle.std.proofs.Common.{take}
use Rattle.machine_model.specs.Runs.{events_of}
use Rattle.task_lives.proofs.RunByRun.{IsFollowedTo}
use Rattle.task_lives.proofs.lives.lives_of_runs.Given as goal

abbrev pub invariant-loop-run : goal.invariant-loop-run
invariant-loop-run l = IsFollowedTo l.units (events_of (take l.run-index l.runs)) l.following
