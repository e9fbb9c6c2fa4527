-- The next event is allowed where the events so far lead.
use Rattle.std.proofs.Common.{arith}
use Rattle.unit_waits.proofs.Applying.{one_allowed}
use Rattle.unit_waits.proofs.steps.apply_all.Goals as goal

pub apply-requires-clause-next : goal.apply-requires-clause-next
apply-requires-clause-next c =
    let l = c.loop-event in
    one_allowed c.next_is_after.ensures c.args.machine.now l.machine c.args.events.now l.event-index c.event-item.result (omega (arith, c.loop-event-test.true)) c.event-item.is
    l.invariant c.requires.replay
