-- Helper vocabulary: the key of the tables of names, which affects only running time: the hash of all names that
-- the items define (SipHash, Aumasson, Bernstein 2012, in its form 1-3).
use Rattle.std.specs.Prelude.{List, [], ◌∷◌}
use Rattle.std.specs.List.{fold}
use Rattle.std.specs.Hash.{u64}
use Rattle.std.specs.Hash.DefaultHasher as sip
use Rattle.std.specs.Hash.FoldHasher as folding
use Rattle.std.specs.declared.hash.DefaultHasher.{DefaultHasher}
use Rattle.std.specs.declared.hash.FoldHasher.{FoldHasher}
use Rattle.program_statements.specs.declared.statement.Statement.TheVariants as statement
use Rattle.annotated_asm.specs.declared.item.PlacedStatement.{PlacedStatement}

-- a hasher that has taken in the name that an item defines
abbrev pub after_name : DefaultHasher → PlacedStatement → DefaultHasher
after_name names item = elim item.statement [
  | statement.Label name ↦ sip.write names name
  | statement.Task task ↦ sip.write names task.name
  | _ ↦ names
]

-- a hasher that has taken in the names that items define
abbrev pub after_names : DefaultHasher → List PlacedStatement → DefaultHasher
after_names names [] = names
after_names names (item ∷ items) = after_names (after_name names item) items

-- the hasher that the tables begin each look-up with
abbrev pub keyed_by : List PlacedStatement → FoldHasher
keyed_by items = fold folding.write folding.initial (u64 (sip.finish (after_names sip.initial items)))
