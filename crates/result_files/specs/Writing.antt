-- What was written of a text where its writer may have failed.
use Rattle.std.specs.Prelude.{◌≡◌, ◌++◌, ℕ, List, Option}
use Rattle.std.specs.Io.KnownBytes.{Appends}

-- something was added, and nothing else
abbrev pub Grows : Option (List ℕ) → Option (List ℕ) → Type 0
Grows old new = (written : List ℕ) × Appends old new written

-- a prefix of the text was added, and nothing else
pub record Begins (old new : Option (List ℕ)) (text : List ℕ) : Type 0 where
  pub written : List ℕ
  pub left : List ℕ
  pub parts : text ≡ written ++ left
  pub added : Appends old new written
