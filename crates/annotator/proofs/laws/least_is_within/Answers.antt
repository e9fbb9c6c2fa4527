use Rattle.annotator.proofs.Decides.{least_within}
use Rattle.annotator.proofs.laws.least_is_within.Goals as goal

pub returns : goal.returns
returns c p cert other well least acc t d there = least_within p cert other well least acc t d there
