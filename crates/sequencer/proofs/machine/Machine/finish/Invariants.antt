-- The machine has gone from its start by head events; each takes its part of the history's room.
use Rattle.std.proofs.Common.{◌-◌, length}
use Rattle.machine_model.specs.Answer.{most_events}
use Rattle.sequencer.proofs.HeadRuns.{OnTheWay}
use Rattle.sequencer.proofs.machine.Machine.finish.Given as goal

abbrev pub invariant-loop-self : goal.invariant-loop-self
invariant-loop-self l = OnTheWay l.initial.self l.self l.k

abbrev pub decreases-loop-self : goal.decreases-loop-self
decreases-loop-self l = most_events - length l.self.history
