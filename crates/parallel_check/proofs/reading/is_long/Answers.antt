-- What is left has one piece less.
use Rattle.std.proofs.Common.{◌≡◌, ◌+◌, ◌<◌, ◌≤◌, ℕ, List, [], length, drop, map, Bor, arith, refl, ◌∙◌, length-append}
use Rattle.std.specs.Prelude.{slice_index_or}
use Rattle.std.proofs.lemmas.List.{at_drop_more}
use Rattle.text_pieces.specs.Pieces.{joined}
use Rattle.parallel_check.proofs.reading.is_long.Goals as goal

-- what is left from one piece on, and from the next
from_next : (pieces : List (Bor (List ℕ))) (i : ℕ) (d : Bor (List ℕ)) → i < length pieces →
    length (joined (map (λ piece. piece.now) (drop i pieces))) ≡ length (slice_index_or pieces i d).now + length (joined (map (λ piece. piece.now) (drop (i + 1) pieces)))
from_next pieces i d within =
    at_drop_more (λ (left : List (Bor (List ℕ))). length (joined (map (λ piece. piece.now) left))) pieces i d within ∙ length-append (slice_index_or pieces i d).now (joined (map (λ piece. piece.now) (drop (i + 1) pieces)))

pub returns-then-piece-missing : goal.returns-then-piece-missing
returns-then-piece-missing c =
    let next = from_next c.args.pieces.now c.loop-piece.piece-index record { ref_ptr = (0, 0); now = [] } (omega arith) in
    let long : 65536 ≤ length (joined (map (λ piece. piece.now) c.args.pieces.now)) = omega (arith, next) in
    (λ _. long, λ _. refl)

pub loop-piece-preserved : goal.loop-piece-preserved
loop-piece-preserved c =
    let next = from_next c.args.pieces.now c.loop-piece.piece-index record { ref_ptr = (0, 0); now = [] } (omega arith) in
    (omega (arith, next), omega (arith, next))
