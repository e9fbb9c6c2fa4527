-- The head is right, so it is ready.
use Rattle.machine_model.proofs.HeadEvents as lemmas
use Rattle.machine_model.proofs.laws.never_stuck.Goals as goal

pub returns : goal.returns
returns c = lemmas.never_stuck
