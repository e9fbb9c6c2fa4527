-- the reads of the chunks so far are there
use Rattle.std.specs.Prelude.{◌≡◌, ◌++◌, flat_map, take}
use Rattle.unit_core.proofs.read_log.copy_all.Given as goal

abbrev pub invariant-loop-chunk : goal.invariant-loop-chunk
invariant-loop-chunk l = l.reads.items ≡ l.initial.reads.items ++ flat_map (λ c. c.items) (take l.chunk-index l.chunks)
