-- There are as many bells as workers so far.
use Rattle.threaded_runner.proofs.Imports.{◌≡◌, length}
use Rattle.threaded_runner.proofs.runner.new_bells.Given as goal

abbrev pub invariant-loop : goal.invariant-loop
invariant-loop l = length l.bells.items ≡ l.counter
