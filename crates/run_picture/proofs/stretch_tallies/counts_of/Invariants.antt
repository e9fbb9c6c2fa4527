-- The counts of the numbers so far.
use Rattle.std.proofs.Common.{◌≡◌, take}
use Rattle.run_picture.proofs.Occurrences.{counts}
use Rattle.run_picture.proofs.stretch_tallies.counts_of.Given as goal

abbrev pub invariant-loop-number : goal.invariant-loop-number
invariant-loop-number l = l.counts.items ≡ counts (take l.number-index l.numbers) l.limit
