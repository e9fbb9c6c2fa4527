-- There are as many groups as pieces so far, with no block.
use Rattle.std.specs.Prelude.{◌≡◌, [], length}
use Rattle.std.specs.List.{All}
use Rattle.parallel_check.proofs.reading.empty.Given as goal

abbrev pub invariant-loop : goal.invariant-loop
invariant-loop l = All (λ group. group.items ≡ []) l.groups.items × (length l.groups.items ≡ l.index)
