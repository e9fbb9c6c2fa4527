-- Names and where they stand.
use Rattle.std.specs.Prelude.{ℕ, List, [], ◌∷◌, Option, Some, None, if◌then◌else◌}
use Rattle.std.specs.Str.{bytes_eq}
use Rattle.annotated_asm.specs.declared.table.Symbol.{Symbol}

abbrev pub Names : Type 0
Names = List (List ℕ × Symbol)

-- where a name stands, if it is in the table
abbrev pub lookup : Names → List ℕ → Option Symbol
lookup [] name = None
lookup (row ∷ rows) name = if bytes_eq name row.0 then Some row.1 else lookup rows name
