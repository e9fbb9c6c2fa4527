-- The event was followed this many times.
use Rattle.std.proofs.Common.{replicate}
use Rattle.task_lives.specs.Following.{Follows}
use Rattle.task_lives.proofs.following.Following.follow_run.Given as goal

abbrev pub invariant-loop : goal.invariant-loop
invariant-loop l = Follows l.initial.self (replicate l.counter l.run.0) l.self
