-- The parts so far are the first of the pieces, whose blocks are taken.
use Rattle.std.proofs.Common.{◌≡◌, ◌<◌, ℕ, [], map, take, Some}
use Rattle.std.specs.Prelude.{slice_get}
use Rattle.std.specs.declared.alloc.Global.{Global}
use Rattle.std.specs.declared.vec.Vec.{Vec}
use Rattle.mask_certificate.specs.Blocks.{BlockView}
use Rattle.parallel_check.specs.Shares.{AreGroups}
use Rattle.parallel_check.proofs.reading.parts_of.Given as goal

abbrev pub invariant-loop-number : goal.invariant-loop-number
invariant-loop-number l = (l.parts.items ≡ map (λ piece. piece.now) (take l.number l.pieces)) × (AreGroups (map (λ piece. piece.now) l.pieces) l.groups × ((n : ℕ) (group : Vec BlockView Global) → n < l.number → slice_get l.groups n ≡ Some group → group.items ≡ []))
