-- The text so far, and what is made of the rest by the edits that are left.
use Rattle.std.proofs.Common.{◌++◌, ℕ, List, drop}
use Rattle.judged_fixes.specs.Mended.{IsMended, IsMendedFrom}
use Rattle.judged_fixes.proofs.mended.mended.Given as goal

abbrev pub invariant-loop-edit : goal.invariant-loop-edit
invariant-loop-edit l = record {
  some : (more : List ℕ) → IsMendedFrom l.at l.rest (drop l.edit-index l.edits) more → IsMended l.text l.edits (l.made.items ++ more);
  none : (new : List ℕ) → IsMended l.text l.edits new → (more : List ℕ) × IsMendedFrom l.at l.rest (drop l.edit-index l.edits) more;
}
