-- The tally of the lives so far.
use Rattle.std.proofs.Common.{◌≡◌, take}
use Rattle.task_lives.specs.Tallies.{tally_of}
use Rattle.task_lives.proofs.tally.add_up.Given as goal

abbrev pub invariant-loop-life : goal.invariant-loop-life
invariant-loop-life l = l.tally ≡ tally_of (take l.life-index l.lives)
