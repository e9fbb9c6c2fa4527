-- What waits so far, and what is left.
use Rattle.std.proofs.Common.{◌≡◌, ◌++◌, drop}
use Rattle.sequencer.specs.Machines.{state}
use Rattle.unit_waits.specs.Waits.{waits_in, waits_of}
use Rattle.unit_waits.proofs.one_step.waits_in_step.Given as goal

abbrev pub invariant-loop-position : goal.invariant-loop-position
invariant-loop-position l =
    l.waits.items ++ waits_of l.accepted.program l.units l.step (state l.machine) l.events l.position (drop l.position (state l.machine).queue)
    ≡ waits_in l.accepted.program l.units l.step (state l.machine) l.events
