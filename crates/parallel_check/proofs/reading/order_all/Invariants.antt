-- The blocks of the pieces so far are in order.
use Rattle.std.specs.Prelude.{◌≡◌, map}
use Rattle.parallel_check.specs.Shares.{AreGroups, AreInOrder, count_in}
use Rattle.parallel_check.proofs.reading.order_all.Given as goal

abbrev pub invariant-loop-number : goal.invariant-loop-number
invariant-loop-number l = AreGroups (map (λ piece. piece.now) l.pieces) l.groups × (AreInOrder l.number l.groups × (count_in l.groups ≡ count_in l.initial.groups))
