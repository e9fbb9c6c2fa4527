-- The text is as long as the parts so far, and where they are those of a file it begins as the file does.
use Rattle.std.proofs.Common.{◌≡◌, ◌*◌, ℕ, List, length, take}
use Rattle.text_pieces.specs.PositionedReads.{AreParts, AreFull}
use Rattle.text_pieces.proofs.parts.put_together.Given as goal

abbrev pub invariant-loop-found : goal.invariant-loop-found
invariant-loop-found l = record {
  bytes : (bytes : List ℕ) → AreParts l.size bytes l.yielded → l.text ≡ take (l.size * length l.yielded) bytes;
  long : AreFull l.size l.yielded → length l.text ≡ l.size * length l.yielded;
}
