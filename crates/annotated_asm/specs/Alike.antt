-- Helper vocabulary: lists of items that no later stage tells apart. No contract of a public function
-- cites a word of this file.
use Rattle.std.specs.Prelude.{◌≡◌, List}
use Rattle.task_descriptor.specs.Listing.{Listing}
use Rattle.annotated_asm.specs.declared.item.PlacedStatement.{PlacedStatement}
use Rattle.annotated_asm.specs.declared.layout.Layout.{Layout}
use Rattle.annotated_asm.specs.Tables.{Names}
use Rattle.annotated_asm.specs.Layout.{laid}
use Rattle.annotated_asm.specs.Resolve.{known, parts}

pub record AreAlike (xs ys : List PlacedStatement) : Type 0 where
  pub layout : (front : Layout) → laid front xs ≡ laid front ys
  pub names : (labels : Names) → known labels xs ≡ known labels ys
  pub program : (labels : Names) (front : Listing) → parts labels front xs ≡ parts labels front ys
