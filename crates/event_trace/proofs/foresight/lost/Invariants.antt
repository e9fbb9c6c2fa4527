-- The changes so far and those that are left give the whole.
use Rattle.std.proofs.Common.{◌≡◌, ◌++◌, drop}
use Rattle.sequencer.specs.Machines.{state}
use Rattle.event_trace.specs.Changes.{lost}
use Rattle.event_trace.proofs.foresight.lost.Given as goal

abbrev pub invariant-loop-position : goal.invariant-loop-position
invariant-loop-position l =
    l.changes.items ++ lost l.change l.position (drop l.position (state l.machine).queue)
    ≡ lost l.change l.from (drop l.from (state l.machine).queue)
