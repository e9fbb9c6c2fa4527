-- The verdict on the lines that are left is that on the script.
use Rattle.std.proofs.Common.{◌≡◌, ◌+◌, ◌≤◌, length}
use Rattle.event_script.specs.EventScript.{lines}
use Rattle.sequencer.specs.Machines.{state, units_of}
use Rattle.strict_replay.specs.StrictReplay.{first_departed}
use Rattle.strict_replay.proofs.judging.Referee.judge.Given as goal

abbrev pub invariant-loop-rest : goal.invariant-loop-rest
invariant-loop-rest l = record {
  verdict : first_departed l.self.is_complete l.self.names.now l.walk.accepted.program (units_of l.walk) (l.number + 1) (length l.walk.history) (state l.walk) (lines l.rest)
      ≡ first_departed l.self.is_complete l.self.names.now l.initial.walk.accepted.program (units_of l.initial.walk) 1 (length l.initial.walk.history) (state l.initial.walk) (lines l.script);
  counted : l.number + length l.rest ≤ length l.script;
}

abbrev pub decreases-loop-rest : goal.decreases-loop-rest
decreases-loop-rest l = length l.rest
