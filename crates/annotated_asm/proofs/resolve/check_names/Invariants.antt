-- The items that are left decide.
use Rattle.std.proofs.Common.{◌≡◌, drop}
use Rattle.annotated_asm.specs.Resolve.{known}
use Rattle.annotated_asm.proofs.resolve.check_names.Given as goal

abbrev pub invariant-loop-item : goal.invariant-loop-item
invariant-loop-item l = known l.labels (drop l.item-index l.items) ≡ known l.labels l.items
