-- What each event's record says that it leaves is what the function looks up.
use Rattle.machine_model.proofs.Answering as answering
use Rattle.machine_model.proofs.laws.next_is_after.Goals as goal

pub returns : goal.returns
returns c = answering.next_is_after
