use Rattle.threaded_runner.proofs.Imports.{arith}
use Rattle.threaded_runner.proofs.Sharing.{one_more_waits}
use Rattle.threaded_runner.proofs.share.Share.first_between.Goals as goal

pub loop-unit-init : goal.loop-unit-init
loop-unit-init c = λ unit low high own. absurd (omega arith)

pub loop-unit-preserved : goal.loop-unit-preserved
loop-unit-preserved c = one_more_waits c.args.machine.now c.args.self c.args.from c.loop-unit.unit c.loop-unit.invariant c.in-None.ensures.none
