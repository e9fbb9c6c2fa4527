use Rattle.annotator.proofs.Decides.{least_accepted}
use Rattle.annotator.proofs.laws.least_is_accepted.Goals as goal

pub returns : goal.returns
returns c p cert other well least acc = least_accepted p cert well least acc.sound
