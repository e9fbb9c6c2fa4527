-- The waits of the kind so far.
use Rattle.std.proofs.Common.{◌≡◌, take}
use Rattle.wait_table.specs.Kinds.{waits_of}
use Rattle.wait_table.proofs.kinds.waits_of.Given as goal

abbrev pub invariant-loop-count : goal.invariant-loop-count
invariant-loop-count l = l.waits ≡ waits_of l.kind (take l.count-index l.counts)
