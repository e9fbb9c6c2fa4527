-- No task so far collides with a later one: a duplicate, if there is one, is among the rest.
use Rattle.std.proofs.Common.{◌≡◌, drop}
use Rattle.task_descriptor.specs.Listing.{has_duplicate as has_duplicate_of}
use Rattle.task_descriptor.proofs.check.has_colliding_pair.Given as goal

abbrev pub invariant-loop-index : goal.invariant-loop-index
invariant-loop-index l = has_duplicate_of l.tasks ≡ has_duplicate_of (drop l.index l.tasks)
