-- The steps so far, and who waited in them.
use Rattle.std.proofs.Common.{◌≡◌, ◌-◌, ◌++◌, [], drop, length}
use Rattle.sequencer.specs.Machines.{state}
use Rattle.unit_waits.specs.Waits.{waits, waits_from}
use Rattle.unit_waits.proofs.Stepping.{IsUnderway}
use Rattle.unit_waits.proofs.waits.waits.Given as goal

abbrev pub invariant-loop-start : goal.invariant-loop-start
invariant-loop-start l = record {
  on : IsUnderway l.accepted l.units l.history l.start l.number l.machine;
  all : l.waits.items ++ waits_from l.accepted.program l.units l.number (state l.machine) [] (drop l.start l.history) ≡ waits l.accepted.program l.units l.history;
}

abbrev pub decreases-loop-start : goal.decreases-loop-start
decreases-loop-start l = length l.history - l.start
