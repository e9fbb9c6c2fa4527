-- The spaces that are left out so far make no difference.
use Rattle.std.proofs.Common.{◌≡◌, ◌≤◌, length}
use Rattle.strict_replay.specs.StrictScript.{length_without_spaces}
use Rattle.strict_replay.proofs.reading.without_last_spaces.Given as goal

abbrev pub invariant-loop-end : goal.invariant-loop-end
invariant-loop-end l = record {
  left : length_without_spaces l.end l.text ≡ length_without_spaces (length l.text) l.text;
  within : l.end ≤ length l.text;
}

abbrev pub decreases-loop-end : goal.decreases-loop-end
decreases-loop-end l = l.end
