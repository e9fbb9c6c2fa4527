use Rattle.threaded_runner.proofs.Turning.{all_wait}
use Rattle.threaded_runner.proofs.machine_laws.law_head_waits.Goals as goal

pub returns : goal.returns
returns c = all_wait c.args.machine.now c.law_goes_on.ensures
