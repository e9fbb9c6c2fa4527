-- The waits so far are counted.
use Rattle.std.proofs.Common.{◌≡◌, take}
use Rattle.std.specs.List.{fold}
use Rattle.unit_waits.specs.Counts.{counted}
use Rattle.unit_waits.proofs.counts.add_all.Given as goal

abbrev pub invariant-loop-waiting : goal.invariant-loop-waiting
invariant-loop-waiting l = l.counts.items ≡ fold counted l.initial.counts.items (take l.waiting-index l.waits)
