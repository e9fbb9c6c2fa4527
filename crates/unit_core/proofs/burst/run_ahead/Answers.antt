-- Each step makes the burst one longer.
use Rattle.unit_core.proofs.BurstLemmas.{none_made, steps_on}
use Rattle.unit_core.proofs.burst.run_ahead.Goals as goal

pub loop-steps-init : goal.loop-steps-init
loop-steps-init c = none_made c.args.program.now c.args.unit.now c.requires

pub loop-steps-preserved : goal.loop-steps-preserved
loop-steps-preserved c =
    steps_on c.args.program.now c.args.unit.now c.loop-steps.unit c.exec_ahead.new.self c.loop-steps.steps c.loop-steps.invariant c.in_default.ensures.step
