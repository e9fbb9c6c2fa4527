-- All pieces but the last are whole lines.
use Rattle.std.proofs.Common.{subst, sym, arith}
use Rattle.std.proofs.lemmas.List.{map_push}
use Rattle.text_pieces.specs.Pieces.{AreCut}
use Rattle.text_pieces.proofs.CutLemmas.{cut_pushed}
use Rattle.text_pieces.proofs.text.Text.pieces.Goals as goal

pub returns-clause-cut : goal.returns-clause-cut
returns-clause-cut c =
    rw c.in_ok-push-2.ensures.items (subst AreCut (sym (map_push _ c.loop-piece.pieces.items c.as_slice-2.result))
    (cut_pushed _ c.self.inside.lines.items _ c.loop-piece.piece-index c.loop-piece.invariant (omega (arith, c.loop-piece-test.false)) c.self.invariant))
