-- Helper vocabulary: how far a text in parts has been read. No contract of a public function cites a
-- word of this file.
use Rattle.std.specs.Prelude.{◌≡◌, ℕ, List, [], ◌∷◌, ◌++◌, length}
use Rattle.text_pieces.specs.Pieces.{joined, AreCut}
use Rattle.mask_certificate.specs.Blocks.{BlockView, IsEnd, AreOf}

-- the end of a part, and the parts after it
pub record Left : Type 0 where
  pub rest : List ℕ
  pub behind : List (List ℕ)

-- what is left of the text
abbrev pub left_of : Left → List ℕ
left_of left = left.rest ++ joined left.behind

-- How far a text in parts has been read: text is the part being read, with blocks of it; rest is what is
-- left of that part, and `behind` are the parts after it. Nothing is left of a part only if no part comes
-- after it.
pub record IsLeft (text : List ℕ) (blocks : List BlockView) (rest : List ℕ) (behind : List (List ℕ)) : Type 0 where
  pub end : IsEnd text rest
  pub blocks_of : AreOf text blocks
  pub cut : AreCut (text ∷ behind)
  pub at_end : length rest ≡ 0 → behind ≡ []
