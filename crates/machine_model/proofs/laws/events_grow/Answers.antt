-- Read off each event's record.
use Rattle.machine_model.proofs.Growth as lemmas
use Rattle.machine_model.proofs.laws.events_grow.Goals as goal

pub returns : goal.returns
returns c = lemmas.events_grow
