use Rattle.unit_turns.proofs.Imports.{◌≡◌, ◌<◌, length, sym, ◌∙◌, arith, rules, most_events, Running, state, units_of}
use Rattle.unit_turns.proofs.RingPlaces.{at_place}
use Rattle.unit_turns.proofs.deciding.turn.Goals as goal

pub returns-in-Some-clause-value : goal.returns-in-Some-clause-value
returns-in-Some-clause-value c =
    let m = c.args.machine.now in
    let running : (state m).outcome ≡ Running = search rules in
    let room : length m.history < most_events = omega (arith, c.length.ensures, c.if-length-ge-MOST_EVENTS.false) in
    let below : c.in-Some.position < units_of m = omega (arith, c.law_ring.ensures, c.in-Some.ensures.position.0) in
    c.turn_ahead.ensures.value ∙ sym (at_place m c.args.unit c.in-Some.position running room below c.in-Some.ensures.position.1)
