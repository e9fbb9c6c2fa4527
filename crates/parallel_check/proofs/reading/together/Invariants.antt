-- The blocks are of these pieces, and as many as in the lists so far.
use Rattle.std.specs.Prelude.{◌≡◌, map, length}
use Rattle.parallel_check.specs.Shares.{AreFound, count_in}
use Rattle.parallel_check.proofs.reading.together.Given as goal

abbrev pub invariant-loop-list : goal.invariant-loop-list
invariant-loop-list l = AreFound (map (λ piece. piece.now) l.pieces) l.found.items × (length l.found.items ≡ count_in l.yielded)
