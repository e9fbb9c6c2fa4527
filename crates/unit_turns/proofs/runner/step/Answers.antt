use Rattle.unit_turns.proofs.Imports.{◌≡◌, ℕ, suc, ◌-◌, subst, arith}
use Rattle.unit_turns.proofs.Looping.{Turning, turned}
use Rattle.unit_turns.proofs.runner.step.Goals as goal

pub loop-position-preserved : goal.loop-position-preserved
loop-position-preserved c =
    let is : c.loop-position.position ≡ suc (c.loop-position.position - 1) = omega (arith, c.loop-position-test.true) in
    turned c.args.budget c.args.units (c.loop-position.position - 1) c.args.machine.now c.args.predictor.now c.loop-position.machine c.loop-position.predictor c.turn_behind.new.machine c.turn_behind.new.predictor
    c.requires.units.1
    (omega (arith, c.loop-position-test.true))
    (subst (λ (n : ℕ). Turning c.args.budget c.args.units n c.args.machine.now c.args.predictor.now c.loop-position.machine c.loop-position.predictor) is c.loop-position.invariant)
    c.in_ok-turn_behind.ensures.kept
    c.in_ok-turn_behind.ensures.done
