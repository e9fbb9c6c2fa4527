use Rattle.annotator.proofs.Decides.{least_accepted}
use Rattle.annotator.proofs.laws.least_decides.Goals as goal

pub returns : goal.returns
returns c p cert well least = (λ acc. acc.sound, λ sound. least_accepted p cert well least sound)
