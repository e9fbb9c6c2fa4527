-- The set has what the instructions so far release.
use Rattle.finding_paths.specs.Steps.{HasReleased}
use Rattle.finding_paths.proofs.table.all_released.Given as goal

abbrev pub invariant-loop-marked : goal.invariant-loop-marked
invariant-loop-marked l = HasReleased l.code l.marked-index l.set
