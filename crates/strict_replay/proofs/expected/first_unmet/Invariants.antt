-- The parts so far are met, so those that are left decide.
use Rattle.std.proofs.Common.{◌≡◌, ◌+◌, ◌≤◌, ◌==◌, length}
use Rattle.std.specs.Prelude.{map}
use Rattle.std.specs.List.{slice_split}
use Rattle.strict_replay.specs.StrictScript.{expected_parts, trimmed}
use Rattle.strict_replay.specs.StrictReplay.{first_unmet}
use Rattle.strict_replay.proofs.expected.first_unmet.Given as goal

abbrev pub invariant-loop-part : goal.invariant-loop-part
invariant-loop-part l = record {
  left : first_unmet l.changes l.number (map trimmed (slice_split (λ byte. byte == 44) l.rest)) ≡ first_unmet l.changes 1 (expected_parts l.content);
  counted : l.number + length l.rest ≤ length l.content + 1;
}

abbrev pub decreases-loop-part : goal.decreases-loop-part
decreases-loop-part l = length l.rest
