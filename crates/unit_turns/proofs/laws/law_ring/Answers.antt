use Rattle.unit_turns.proofs.Imports.{state, units_of}
use Rattle.sequencer.proofs.Runs.{queue_fits}
use Rattle.unit_turns.proofs.laws.law_ring.Goals as goal

pub returns : goal.returns
returns c =
    let m = c.args.machine.now in
    queue_fits c.events_count.ensures m.accepted.program (units_of m) m.history (state m) c.history.ensures.replay
