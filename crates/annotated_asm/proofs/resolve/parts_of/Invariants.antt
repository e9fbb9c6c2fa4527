-- The program so far, with the items that are left, is the whole program.
use Rattle.std.proofs.Common.{◌≡◌, drop}
use Rattle.task_descriptor.specs.Listing.{listing_of}
use Rattle.annotated_asm.specs.Resolve.{parts, no_parts}
use Rattle.annotated_asm.proofs.resolve.parts_of.Given as goal

abbrev pub invariant-loop-item : goal.invariant-loop-item
invariant-loop-item l = parts l.labels (listing_of l.all) (drop l.item-index l.items) ≡ parts l.labels no_parts l.items
