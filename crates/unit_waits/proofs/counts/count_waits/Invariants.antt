-- The steps so far, and the counts of those who waited in them: in a step each of at most 16 units, once.
use Rattle.std.proofs.Common.{◌≡◌, ◌-◌, ◌*◌, ◌≤◌, ◌++◌, List, [], drop, length}
use Rattle.sequencer.specs.Machines.{state}
use Rattle.unit_waits.specs.declared.waiting.Waiting.{Waiting}
use Rattle.unit_waits.specs.Counts.{counts_of}
use Rattle.unit_waits.specs.Waits.{waits, waits_from}
use Rattle.unit_waits.proofs.Stepping.{IsUnderway}
use Rattle.unit_waits.proofs.counts.count_waits.Given as goal

abbrev pub invariant-loop-start : goal.invariant-loop-start
invariant-loop-start l = record {
  waited : List Waiting;
  counts : l.counts.items ≡ counts_of waited;
  few : length waited ≤ 16 * l.start;
  on : IsUnderway l.accepted l.units l.history l.start l.number l.machine;
  all : waited ++ waits_from l.accepted.program l.units l.number (state l.machine) [] (drop l.start l.history) ≡ waits l.accepted.program l.units l.history;
}

abbrev pub decreases-loop-start : goal.decreases-loop-start
decreases-loop-start l = length l.history - l.start
