use Rattle.finding_paths.proofs.Searches.{Search, left_to_do}
use Rattle.finding_paths.proofs.paths.path_onward.Given as goal

abbrev pub invariant-loop-number : goal.invariant-loop-number
invariant-loop-number l = Search l.program l.start l.sought l.marks.items l.visits.items l.number

abbrev pub decreases-loop-number : goal.decreases-loop-number
decreases-loop-number l = left_to_do l.marks.items l.visits.items l.number
