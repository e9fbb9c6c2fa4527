-- A block more of this piece.
use Rattle.std.proofs.Common.{◌≡◌, ◌∙◌, ◌<◌, List, ℕ, [], Bor, length, map, arith, ap, sym}
use Rattle.std.specs.Prelude.{slice_index_or}
use Rattle.std.proofs.lemmas.List.{length-map, get_or-map}
use Rattle.std.proofs.lemmas.List.Elements.{All-push}
use Rattle.mask_certificate.specs.Blocks.{BlockView}
use Rattle.parallel_check.proofs.reading.read_share.Goals as goal

pub loop-preserved : goal.loop-preserved
loop-preserved g c =
    let texts = map (λ (piece : Bor (List ℕ)). piece.now) c.args.pieces.now in
    let within : c.args.piece < length c.args.pieces.now = c.requires.piece in
    let text = ap (λ (block : BlockView). block.text) c.in_ok-block.ensures
    ∙ sym (get_or-map (λ (piece : Bor (List ℕ)). piece.now) c.args.pieces.now c.args.piece record { ref_ptr = (0, 0); now = [] } [] within) in
    rw c.in_ok-push.ensures.items
    (All-push (λ (block : ℕ × BlockView). (block.0 < length texts) × (block.1.text ≡ slice_index_or texts block.0 [])) c.loop.found.items (c.args.piece, c.in_ok-block.block) c.loop.invariant
    (omega (arith, length-map c.args.pieces.now (λ (piece : Bor (List ℕ)). piece.now), within), text))
