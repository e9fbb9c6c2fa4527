-- The parts so far are other ones, so those that are left decide.
use Rattle.std.proofs.Common.{◌≡◌, ◌==◌, length}
use Rattle.std.specs.Prelude.{map}
use Rattle.std.specs.List.{slice_split}
use Rattle.strict_replay.specs.StrictScript.{expected_parts, trimmed}
use Rattle.strict_replay.specs.StrictReplay.{is_listed}
use Rattle.strict_replay.proofs.expected.is_listed.Given as goal

abbrev pub invariant-loop-part : goal.invariant-loop-part
invariant-loop-part l = is_listed (map trimmed (slice_split (λ byte. byte == 44) l.rest)) l.done ≡ is_listed (expected_parts l.content) l.done

abbrev pub decreases-loop-part : goal.decreases-loop-part
decreases-loop-part l = length l.rest
