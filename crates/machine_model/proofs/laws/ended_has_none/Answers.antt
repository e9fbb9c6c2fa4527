-- By cases on how the run stands.
use Rattle.machine_model.proofs.HeadEvents as lemmas
use Rattle.machine_model.proofs.laws.ended_has_none.Goals as goal

pub returns : goal.returns
returns c = lemmas.ended_has_none
