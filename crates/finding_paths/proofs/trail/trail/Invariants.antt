use Rattle.finding_paths.proofs.Trails.{WayBack}
use Rattle.finding_paths.proofs.trail.trail.Given as goal

abbrev pub invariant-loop-number : goal.invariant-loop-number
invariant-loop-number l = WayBack l.visits l.at l.number l.path.items

abbrev pub decreases-loop-number : goal.decreases-loop-number
decreases-loop-number l = l.number
