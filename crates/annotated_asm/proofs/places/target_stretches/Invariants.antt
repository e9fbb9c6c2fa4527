-- The targets so far, with those of the rest, are all targets.
use Rattle.std.proofs.Common.{◌≡◌, ◌++◌, length}
use Rattle.annotated_asm.specs.Sources.{target_stretches}
use Rattle.annotated_asm.proofs.places.target_stretches.Given as goal

abbrev pub invariant-loop-rest : goal.invariant-loop-rest
invariant-loop-rest l = l.list.items ++ target_stretches l.line l.rest ≡ target_stretches l.line l.spans

abbrev pub decreases-loop-rest : goal.decreases-loop-rest
decreases-loop-rest l = length l.rest
