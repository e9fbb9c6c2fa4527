-- The turns at the positions below this one are left.
use Rattle.unit_turns.proofs.Looping.{Turning}
use Rattle.unit_turns.proofs.runner.step.Given as goal

abbrev pub invariant-loop-position : goal.invariant-loop-position
invariant-loop-position l = Turning l.budget l.units l.position l.initial.machine l.initial.predictor l.machine l.predictor
