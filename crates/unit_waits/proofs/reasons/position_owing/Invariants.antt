-- The last unit so far whose task may produce the register.
use Rattle.std.proofs.Common.{◌≡◌}
use Rattle.sequencer.specs.Machines.{state}
use Rattle.unit_waits.specs.Reasons.{position_owing}
use Rattle.unit_waits.proofs.reasons.position_owing.Given as goal

abbrev pub invariant-loop-ahead : goal.invariant-loop-ahead
invariant-loop-ahead l = l.owing ≡ position_owing l.program (state l.machine).queue l.register l.ahead
