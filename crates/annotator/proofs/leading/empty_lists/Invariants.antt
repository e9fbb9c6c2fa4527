use Rattle.annotator.proofs.Imports.{◌≡◌, [], replicate, lists_of}
use Rattle.annotator.proofs.leading.empty_lists.Given as goal

abbrev pub invariant-loop : goal.invariant-loop
invariant-loop l = lists_of l.lists.items ≡ replicate l.counter []
