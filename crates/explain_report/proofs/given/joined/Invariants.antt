-- The pieces so far are joined.
use Rattle.std.proofs.Common.{◌≡◌, map, take}
use Rattle.text_pieces.specs.Pieces.{joined}
use Rattle.explain_report.proofs.given.joined.Given as goal

abbrev pub invariant-loop-piece : goal.invariant-loop-piece
invariant-loop-piece l = l.bytes.items ≡ joined (map (λ piece. piece.now) (take l.piece-index l.piece-items))
