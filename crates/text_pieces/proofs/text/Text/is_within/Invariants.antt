-- What is left of the bytes that it may have, and the bytes of the pieces to come.
use Rattle.std.proofs.Common.{◌≡◌, ◌+◌, length, drop}
use Rattle.text_pieces.specs.Pieces.{joined}
use Rattle.text_pieces.proofs.text.Text.is_within.Given as goal

abbrev pub invariant-loop-piece : goal.invariant-loop-piece
invariant-loop-piece l = length (joined l.self-inside.lines.items) + l.left ≡ l.most + length (joined (drop l.piece-index l.self-inside.lines.items))
