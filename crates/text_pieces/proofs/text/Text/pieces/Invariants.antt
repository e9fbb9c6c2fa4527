-- The pieces so far are the first of those that are whole lines.
use Rattle.std.proofs.Common.{◌≡◌, map, take}
use Rattle.text_pieces.proofs.text.Text.pieces.Given as goal

abbrev pub invariant-loop-piece : goal.invariant-loop-piece
invariant-loop-piece l = map (λ piece. piece.now) l.pieces.items ≡ take l.piece-index l.self-inside.lines.items
