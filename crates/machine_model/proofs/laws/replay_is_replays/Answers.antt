-- By induction on the list of events.
use Rattle.machine_model.proofs.Answering.{replay_is_replays}
use Rattle.machine_model.proofs.laws.replay_is_replays.Goals as goal

pub returns : goal.returns
returns c = replay_is_replays
