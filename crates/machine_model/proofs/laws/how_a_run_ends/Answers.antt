-- One of the claims that the invariant has.
use Rattle.machine_model.proofs.Headline.{every_replay_good}
use Rattle.task_descriptor.specs.WellFormed.{limits}
use Rattle.machine_model.proofs.laws.how_a_run_ends.Goals as goal

pub returns : goal.returns
returns c = λ p units events s formed sound replay. (every_replay_good p (limits p formed).code sound units events s replay).claims.ends
