-- The steps so far, and who waited in those of them that count.
use Rattle.std.proofs.Common.{◌≡◌, ◌-◌, ◌++◌, [], drop, filter, length}
use Rattle.sequencer.specs.Machines.{state}
use Rattle.unit_waits.specs.declared.waiting.Waiting.{Waiting}
use Rattle.unit_waits.specs.Waits.{is_between, waits_between, waits_from}
use Rattle.unit_waits.proofs.Stepping.{IsUnderway}
use Rattle.unit_waits.proofs.between.waits_between.Given as goal

abbrev pub invariant-loop-start : goal.invariant-loop-start
invariant-loop-start l = record {
  on : IsUnderway l.accepted l.units l.history l.start l.number l.machine;
  all : l.waits.items ++ filter (λ (w : Waiting). is_between l.first l.last w.step) (waits_from l.accepted.program l.units l.number (state l.machine) [] (drop l.start l.history))
      ≡ waits_between l.accepted.program l.units l.first l.last l.history;
}

abbrev pub decreases-loop-start : goal.decreases-loop-start
decreases-loop-start l = length l.history - l.start
