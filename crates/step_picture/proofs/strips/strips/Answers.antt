-- One unit more.
use Rattle.std.proofs.Common.{List, [], ◌++◌, ap, ◌∙◌}
use Rattle.run_picture.specs.declared.shape.Wait.{Wait}
use Rattle.run_picture.proofs.Parts.{range_more}
use Rattle.step_picture.specs.Strips.{waits_on}
use Rattle.step_picture.proofs.strips.strips.Goals as goal

pub loop-unit-preserved : goal.loop-unit-preserved
loop-unit-preserved c =
    c.in_ok-push_strips.ensures
    ∙ ap (λ (ws : List Wait). ws ++ waits_on c.args.waits.now c.loop-unit.unit) c.loop-unit.invariant
    ∙ range_more (waits_on c.args.waits.now) [] c.loop-unit.unit
