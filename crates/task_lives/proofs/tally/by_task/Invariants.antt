-- The tallies of the lives so far.
use Rattle.std.proofs.Common.{◌≡◌, take}
use Rattle.task_lives.specs.Tallies.{tallies_of}
use Rattle.task_lives.proofs.tally.by_task.Given as goal

abbrev pub invariant-loop-life : goal.invariant-loop-life
invariant-loop-life l = l.tallies.items ≡ tallies_of l.tasks (take l.life-index l.lives)
