-- The targets that are left decide.
use Rattle.std.proofs.Common.{◌≡◌, drop}
use Rattle.std.specs.List.{list_all}
use Rattle.annotated_asm.specs.Resolve.{is_known_target}
use Rattle.annotated_asm.proofs.resolve.are_known_targets.Given as goal

abbrev pub invariant-loop-target : goal.invariant-loop-target
invariant-loop-target l = list_all (is_known_target l.labels) (drop l.target-index l.targets) ≡ list_all (is_known_target l.labels) l.targets
