-- The lines that begin so far, as many as there are line feeds and one.
use Rattle.std.proofs.Common.{◌≡◌, ◌+◌, ◌==◌, length, take}
use Rattle.std.specs.Prelude.{count_by}
use Rattle.judged_fixes.specs.Proposed.{AreLineStarts}
use Rattle.judged_fixes.proofs.places.line_starts.Given as goal

abbrev pub invariant-loop-index : goal.invariant-loop-index
invariant-loop-index l = record {
  counted : count_by (λ b. b == 10) (take l.index l.text) + 1 ≡ length l.starts.items;
  begun : AreLineStarts l.text l.starts.items;
}
