use Rattle.unit_turns.proofs.Imports.{◌<◌, length, refl, sym, ◌∙◌, arith, most_events, state, units_of}
use Rattle.unit_turns.proofs.GoingOn.{some_unit}
use Rattle.unit_turns.proofs.RingPlaces.{at_place}
use Rattle.unit_turns.proofs.deciding.turn_at_head.Goals as goal

pub returns-in-Some-clause-value : goal.returns-in-Some-clause-value
returns-in-Some-clause-value c =
    let m = c.args.machine.now in
    let next = c.in-Some.ensures.allowed in
    let some : 0 < units_of m = some_unit m.accepted.program (units_of m) (state m) next.0 c.in-Some.event c.law_ring.ensures next.1 in
    let room : length m.history < most_events = omega (arith, c.length.ensures, c.if-length-ge-MOST_EVENTS.false) in
    c.turn_of_head.ensures.value ∙ sym (at_place m c.args.unit 0 (c.in-Some.ensures.running.0 refl) room some c.requires)
