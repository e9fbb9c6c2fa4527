-- The copies so far.
use Rattle.std.proofs.Common.{◌≡◌, ◌++◌, replicate}
use Rattle.run_picture.proofs.events.push_times.Given as goal

abbrev pub invariant-loop : goal.invariant-loop
invariant-loop l = l.events.items ≡ l.initial.events.items ++ replicate l.counter l.event
