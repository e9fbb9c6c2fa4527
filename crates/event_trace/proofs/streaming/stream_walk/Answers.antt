-- One event more is played, and what it says is added.
use Rattle.std.proofs.Common.{length, ◌++◌, ◌∙◌, ap, arith}
use Rattle.std.proofs.KnownBytes.{Appends-trans}
use Rattle.mark_checker.specs.Places.{Checked}
use Rattle.sequencer.specs.Machines.{state, units_of}
use Rattle.event_trace.specs.Following.{state_from}
use Rattle.event_trace.proofs.Steps.{state_on}
use Rattle.event_trace.proofs.streaming.stream_walk.Goals as goal

pub loop-event-preserved : goal.loop-event-preserved
loop-event-preserved g c =
    let l = c.loop-event in
    let kept = l.invariant.kept in
    let on = c.in_ok-walk.ensures.on in
    let m = c.args.walk in
    let p = m.accepted.program in
    let events = c.args.events.now in
    let event = c.event-item.result in
    let before = l.invariant.grows in
    let more = c.stream_event.ensures.grows in
    record {
      kept = record {
        accepted = on.kept.accepted ∙ kept.accepted;
        units = on.kept.units ∙ kept.units;
      };
      left =
          state_on p (units_of m) l.event-index l.walk c.in_ok-walk.walk (state_from p (units_of m) (length m.history) (state m) events) events event
          (ap (λ (a : Checked). a.program) kept.accepted) kept.units on (omega (arith, c.loop-event-test.true)) c.event-item.is
          l.invariant.left;
      told = omega (arith, c.in_ok-walk.ensures.told);
      grows = (before.0 ++ more.0, Appends-trans _ _ _ before.0 more.0 before.1 more.1);
    }

pub returns-in_err-walk-clause-grows : goal.returns-in_err-walk-clause-grows
returns-in_err-walk-clause-grows g c =
    let before = c.loop-event.invariant.grows in
    let more = c.stream_event.ensures.grows in
    (before.0 ++ more.0, Appends-trans _ _ _ before.0 more.0 before.1 more.1)
