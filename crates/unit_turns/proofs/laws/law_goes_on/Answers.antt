use Rattle.unit_turns.proofs.GoingOn.{goes_on}
use Rattle.unit_turns.proofs.laws.law_goes_on.Goals as goal

pub returns : goal.returns
returns c =
    goes_on c.args.machine.now c.head_event.result c.head_event.ensures.event c.head_event.ensures.running.1 c.head_event.ensures.allowed c.law_ring.ensures
