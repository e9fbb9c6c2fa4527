-- One wait more.
use Rattle.std.specs.Prelude.{flat_map}
use Rattle.step_picture.specs.Strips.{each_step, option_list}
use Rattle.step_picture.proofs.Joining.{wait_more}
use Rattle.step_picture.proofs.strips.push_strips.Goals as goal

pub loop-waiting-preserved : goal.loop-waiting-preserved
loop-waiting-preserved c =
    wait_more c.args.unit c.args.waits.now c.loop-waiting.waiting-index c.waiting-item.result c.wait_on.result
    (flat_map each_step c.args.strips.now.items) (flat_map each_step c.loop-waiting.strips.items)
    (flat_map each_step (option_list c.loop-waiting.current)) (flat_map each_step c.with_next.new.strips.items)
    (flat_map each_step (option_list c.in_ok-current.current))
    c.loop-waiting-test.true c.waiting-item.is c.wait_on.ensures.value c.wait_on.ensures.step c.loop-waiting.invariant c.in_ok-current.ensures
