-- The parts so far are the first of the pieces.
use Rattle.std.proofs.Common.{◌≡◌, map, take}
use Rattle.report_texts.proofs.judging.parts_of.Given as goal

abbrev pub invariant-loop-piece : goal.invariant-loop-piece
invariant-loop-piece l = l.parts.items ≡ map (λ piece. piece.now) (take l.piece-index l.pieces)
