-- By induction on the burst.
use Rattle.machine_model.proofs.Bursts as lemmas
use Rattle.machine_model.proofs.laws.bursts_are_events.Goals as goal

pub returns : goal.returns
returns c = lemmas.bursts_are_events
