-- No instruction from there on writes what was sent.
use Rattle.machine_model.proofs.SentRegisters as lemmas
use Rattle.machine_model.proofs.laws.sent_registers_stay.Goals as goal

pub returns : goal.returns
returns c = λ p mask u index m a b memory fits inside there last. lemmas.sent_stays p mask u index m a b memory fits inside there last
