use Rattle.unit_core.specs.Bursts.{Makes}
use Rattle.unit_core.proofs.burst.run_ahead.Given as goal

-- the unit is this many steps on
abbrev pub invariant-loop-steps : goal.invariant-loop-steps
invariant-loop-steps l = Makes l.program l.initial.unit l.steps l.unit
