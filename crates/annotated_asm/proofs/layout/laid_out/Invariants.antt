-- The layout so far, with the items that are left, is that of all.
use Rattle.std.proofs.Common.{◌≡◌, drop}
use Rattle.annotated_asm.specs.Layout.{laid, no_layout}
use Rattle.annotated_asm.proofs.layout.laid_out.Given as goal

abbrev pub invariant-loop-item : goal.invariant-loop-item
invariant-loop-item l = laid l.layout (drop l.item-index l.items) ≡ laid no_layout l.items
