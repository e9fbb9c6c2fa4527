-- The stretches so far have what the life counts for them; the others are as they were.
use Rattle.std.proofs.Common.{◌≡◌, ℕ, ◌+◌, ◌<◌, ◌≤◌, length, get_or}
use Rattle.run_picture.specs.Stretches.{counted, stretch_at}
use Rattle.run_picture.proofs.stretches.add_life.Given as goal

abbrev pub invariant-loop-stretch : goal.invariant-loop-stretch
invariant-loop-stretch l = record {
  same : length l.shares.items ≡ length l.initial.shares.items;
  added : (k : ℕ) → k < length l.initial.shares.items → stretch_at k < l.stretch → get_or l.shares.items k 0 ≡ get_or l.initial.shares.items k 0 + counted l.span k l.life;
  kept : (k : ℕ) → k < length l.initial.shares.items → l.stretch ≤ stretch_at k → get_or l.shares.items k 0 ≡ get_or l.initial.shares.items k 0;
}
