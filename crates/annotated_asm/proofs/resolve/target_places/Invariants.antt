-- The places so far, in front of those that are left, are all places.
use Rattle.std.proofs.Common.{◌≡◌, drop}
use Rattle.annotated_asm.specs.Resolve.{target_places}
use Rattle.program_statements.proofs.Fronts.{with_front}
use Rattle.annotated_asm.proofs.resolve.target_places.Given as goal

abbrev pub invariant-loop-target : goal.invariant-loop-target
invariant-loop-target l = with_front l.places.items (target_places l.labels l.line (drop l.target-index l.targets)) ≡ target_places l.labels l.line l.targets
