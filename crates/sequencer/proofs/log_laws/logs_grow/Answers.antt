use Rattle.sequencer.proofs.GrownLogs.{logs_grow}
use Rattle.sequencer.proofs.log_laws.logs_grow.Goals as goal

pub returns : goal.returns
returns c = logs_grow c.replays_join.ensures c.next_is_after.ensures
