-- The spaces that are left out so far make no difference.
use Rattle.std.proofs.Common.{◌≡◌, length}
use Rattle.strict_replay.specs.StrictScript.{without_first_spaces}
use Rattle.strict_replay.proofs.reading.without_first_spaces.Given as goal

abbrev pub invariant-loop-rest : goal.invariant-loop-rest
invariant-loop-rest l = without_first_spaces l.rest ≡ without_first_spaces l.text

abbrev pub decreases-loop-rest : goal.decreases-loop-rest
decreases-loop-rest l = length l.rest
