-- A text with parts of it replaced: it is cut at the parts, what stands between them is kept, and other bytes are written in
-- their place.
use Rattle.std.specs.Prelude.{◌≡◌, ◌+◌, ℕ, List, [], ◌∷◌, ◌++◌, length}
use Rattle.judged_fixes.specs.declared.edit.Edit.{Edit}

-- the rest of a text, from its byte `at` on, is cut at the part that an edit replaces
pub record IsCut (rest : List ℕ) (at : ℕ) (e : Edit) (before behind : List ℕ) : Type 0 where
  pub part : List ℕ
  pub all : rest ≡ before ++ (part ++ behind)
  pub from : at + length before ≡ e.from
  pub to : e.from + length part ≡ e.to

-- the rest of a text with edits made, each in what stands behind the part of the one ahead of it
abbrev pub IsMendedFrom : (at : ℕ) → (rest : List ℕ) → List Edit → (new : List ℕ) → Type 0
IsMendedFrom at rest [] new = new ≡ rest
IsMendedFrom at rest (e ∷ es) new =
    (before behind more : List ℕ) × IsCut rest at e before behind × (new ≡ before ++ (e.text ++ more)) × IsMendedFrom e.to behind es more

abbrev pub IsMended : (text : List ℕ) → List Edit → (new : List ℕ) → Type 0
IsMended text es new = IsMendedFrom 0 text es new
