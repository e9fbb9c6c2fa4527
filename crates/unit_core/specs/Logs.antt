-- A log of reads as contracts see it.
use Rattle.std.specs.Prelude.{ℕ, List}
use Rattle.mips_plain.specs.declared.outcome.Read.{Read}

-- what was read, oldest first, and how many more reads fit without growth
pub record LogView : Type 0 where
  pub reads : List Read
  pub room : ℕ
