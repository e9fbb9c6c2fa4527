-- So many steps were taken; each has an event, and the budget bounds these.
use Rattle.unit_turns.proofs.Imports.{◌-◌, length}
use Rattle.unit_turns.proofs.Looping.{Running}
use Rattle.unit_turns.proofs.runner.run.Given as goal

abbrev pub invariant-loop-machine : goal.invariant-loop-machine
invariant-loop-machine l = Running l.budget l.units l.steps l.initial.machine l.initial.predictor l.machine l.predictor

abbrev pub decreases-loop-machine : goal.decreases-loop-machine
decreases-loop-machine l = l.budget - length l.machine.history
