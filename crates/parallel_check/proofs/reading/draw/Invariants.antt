-- The blocks are of these pieces.
use Rattle.std.specs.Prelude.{map}
use Rattle.parallel_check.specs.Shares.{AreFound}
use Rattle.parallel_check.proofs.reading.draw.Given as goal

abbrev pub invariant-loop : goal.invariant-loop
invariant-loop g l = AreFound (map (λ piece. piece.now) l.pieces) l.found.items
