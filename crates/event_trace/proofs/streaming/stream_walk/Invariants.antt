-- What is left leads to the same state; what was written stays.
use Rattle.std.proofs.Common.{◌≡◌, drop, length}
use Rattle.result_files.specs.Writing.{Grows}
use Rattle.sequencer.specs.Machines.{SameRing, state, units_of}
use Rattle.event_trace.specs.Following.{state_from}
use Rattle.event_trace.proofs.streaming.stream_walk.Given as goal

abbrev pub invariant-loop-event : goal.invariant-loop-event
invariant-loop-event g l =
    let m = l.initial.walk in
    let p = m.accepted.program in
    record {
      kept : SameRing m l.walk;
      left : state_from p (units_of m) (length l.walk.history) (state l.walk) (drop l.event-index l.events)
          ≡ state_from p (units_of m) (length m.history) (state m) l.events;
      told : l.pending.told ≡ l.event-index;
      grows : Grows (g.W.Write.contents l.initial.writer) (g.W.Write.contents l.writer);
    }
