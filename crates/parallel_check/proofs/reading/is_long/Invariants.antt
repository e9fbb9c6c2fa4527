-- As much is missing as the whole lacks of what is left and 65,536.
use Rattle.std.proofs.Common.{◌≡◌, ◌+◌, ◌<◌, length, drop, map}
use Rattle.text_pieces.specs.Pieces.{joined}
use Rattle.parallel_check.proofs.reading.is_long.Given as goal

abbrev pub invariant-loop-piece : goal.invariant-loop-piece
invariant-loop-piece l = (0 < l.missing) × (l.missing + length (joined (map (λ piece. piece.now) l.pieces)) ≡ 65536 + length (joined (map (λ piece. piece.now) (drop l.piece-index l.pieces))))
