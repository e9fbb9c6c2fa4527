-- What is left stays the same, part by part.
use Rattle.std.proofs.Common.{◌≡◌, ◌++◌, ◌∷◌}
use Rattle.std.specs.Vec.Iter.{into_iter_items, into_iter_len}
use Rattle.text_pieces.specs.Pieces.{joined, AreCut}
use Rattle.mask_certificate.specs.Blocks.{IsEnd, AreOf}
use Rattle.mask_certificate.proofs.left.from.Given as goal

abbrev pub invariant-loop-behind : goal.invariant-loop-behind
invariant-loop-behind l = record {
  end : IsEnd l.text l.rest;
  blocks : AreOf l.text l.blocks.items;
  cut : AreCut (l.text ∷ into_iter_items l.behind);
  left : l.rest ++ joined (into_iter_items l.behind) ≡ l.fn.rest ++ joined (into_iter_items l.fn.behind);
}

abbrev pub decreases-loop-behind : goal.decreases-loop-behind
decreases-loop-behind l = into_iter_len l.behind
