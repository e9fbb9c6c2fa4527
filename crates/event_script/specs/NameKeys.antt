-- Helper vocabulary: the key of the index of task names, which affects only running time: the hash of all of them
-- (SipHash, Aumasson, Bernstein 2012, in its form 1-3).
use Rattle.std.specs.Prelude.{List, [], ◌∷◌}
use Rattle.std.specs.List.{fold}
use Rattle.std.specs.Hash.{u64}
use Rattle.std.specs.Hash.DefaultHasher as sip
use Rattle.std.specs.Hash.FoldHasher as folding
use Rattle.std.specs.declared.hash.DefaultHasher.{DefaultHasher}
use Rattle.std.specs.declared.hash.FoldHasher.{FoldHasher}
use Rattle.task_descriptor.specs.declared.descriptor.Descriptor.{Descriptor}

-- a hasher that has taken in the names of tasks
abbrev pub after_names : DefaultHasher → List Descriptor → DefaultHasher
after_names names [] = names
after_names names (task ∷ tasks) = after_names (sip.write names task.name) tasks

-- the hasher that the index begins each look-up with
abbrev pub keyed_by : List Descriptor → FoldHasher
keyed_by tasks = fold folding.write folding.initial (u64 (sip.finish (after_names sip.initial tasks)))
