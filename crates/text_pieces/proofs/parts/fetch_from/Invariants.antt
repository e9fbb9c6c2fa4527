-- What was read is the first of what stands from the offset on.
use Rattle.std.proofs.Common.{◌≡◌, ◌≤◌, ◌-◌, ℕ, List, Some, take, drop, vec_len}
use Rattle.text_pieces.proofs.parts.fetch_from.Given as goal

abbrev pub invariant-loop-chunk : goal.invariant-loop-chunk
invariant-loop-chunk g l = record {
  within : vec_len l.all ≤ l.most;
  bytes : (bytes : List ℕ) → g.F.PositionedFile.bytes l.file ≡ Some bytes → l.all.items ≡ take (vec_len l.all) (drop l.from bytes);
}

abbrev pub decreases-loop-chunk : goal.decreases-loop-chunk
decreases-loop-chunk g l = l.most - vec_len l.all
