-- The least register for which something holds.
use Rattle.std.specs.Prelude.{ℕ, ◌<◌, Option, IfSome, IfNone}

-- the least of the 34 registers for which it holds; none where it holds for no register
pub record IsLeast (Holds : (register : ℕ) → Type 0) (found : Option ℕ) : Type 0 where
  pub holds : IfSome found Holds
  pub least : IfSome found (λ r. (less : ℕ) → less < r → Holds less → ⊥)
  pub none : IfNone found ((r : ℕ) → r < 34 → Holds r → ⊥)
