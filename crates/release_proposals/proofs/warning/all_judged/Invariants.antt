-- Each warning so far has a fix that pays.
use Rattle.std.specs.List.{All}
use Rattle.release_proposals.specs.Paying.{IsForgotten}
use Rattle.release_proposals.proofs.warning.all_judged.Given as goal

abbrev pub invariant-loop-waited : goal.invariant-loop-waited
invariant-loop-waited l = All (IsForgotten l.text) l.list.items
