-- One piece more.
use Rattle.std.proofs.Common.{◌≡◌, ◌+◌, ◌<◌, [], ◌∷◌, ◌++◌, Bor, List, ℕ, length, map, take, arith, ◌∙◌, ap, sym}
use Rattle.std.specs.Prelude.{slice_index_or}
use Rattle.std.proofs.lemmas.List.{map_more}
use Rattle.report_texts.proofs.judging.parts_of.Goals as goal

part_more : (pieces : List (Bor (List ℕ))) (parts : List (List ℕ)) (part : List ℕ) (n : ℕ) (d : Bor (List ℕ)) → n < length pieces →
    parts ≡ map (λ piece. piece.now) (take n pieces) → part ≡ (slice_index_or pieces n d).now → parts ++ part ∷ [] ≡ map (λ piece. piece.now) (take (n + 1) pieces)
part_more pieces parts part n d within before here =
    ap (λ (ps : List (List ℕ)). ps ++ part ∷ []) before
    ∙ (ap (λ (p : List ℕ). map (λ (piece : Bor (List ℕ)). piece.now) (take n pieces) ++ p ∷ []) here
    ∙ sym (map_more (λ (piece : Bor (List ℕ)). piece.now) pieces n d within))

pub loop-piece-preserved : goal.loop-piece-preserved
loop-piece-preserved c =
    c.in_ok-push.ensures.items
    ∙ part_more c.args.pieces.now c.loop-piece.parts.items c.new.result c.loop-piece.piece-index record { ref_ptr = (0, 0); now = [] } (omega arith) c.loop-piece.invariant c.new.ensures
