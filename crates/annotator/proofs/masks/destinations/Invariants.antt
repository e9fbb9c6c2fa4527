use Rattle.annotator.proofs.Imports.{AreDestinations}
use Rattle.annotator.proofs.masks.destinations.Given as goal

abbrev pub invariant-loop-marked : goal.invariant-loop-marked
invariant-loop-marked l = AreDestinations l.code l.marked-index l.masks.items
