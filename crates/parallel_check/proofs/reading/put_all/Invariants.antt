-- The blocks so far are with those of their pieces.
use Rattle.std.specs.Prelude.{◌≡◌, ◌+◌, map, length}
use Rattle.parallel_check.specs.Shares.{AreGroups, count_in}
use Rattle.parallel_check.proofs.reading.put_all.Given as goal

abbrev pub invariant-loop-piece : goal.invariant-loop-piece
invariant-loop-piece l = AreGroups (map (λ piece. piece.now) l.pieces) l.groups × (count_in l.groups ≡ count_in l.initial.groups + length l.yielded)
