use Rattle.sequencer.proofs.GrownLogs.{length_tells}
use Rattle.sequencer.proofs.log_laws.length_tells_log.Goals as goal

pub returns : goal.returns
returns c = length_tells c.logs_grow.ensures
