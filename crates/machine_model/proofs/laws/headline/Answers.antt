-- The invariant holds after every replay, and has the claims.
use Rattle.machine_model.proofs.Headline.{every_replay_good}
use Rattle.task_descriptor.specs.WellFormed.{limits}
use Rattle.machine_model.proofs.laws.headline.Goals as goal

pub returns : goal.returns
returns c = λ p units events s formed sound replay. (every_replay_good p (limits p formed).code sound units events s replay).claims
