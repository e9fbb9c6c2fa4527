use Rattle.unit_turns.proofs.Imports.{◌≡◌, true, length, sym, ◌∙◌, state, units_of, goes_on, course}
use Rattle.unit_turns.proofs.Going.{on_ok, on_turn}
use Rattle.unit_turns.proofs.turns.turn_behind.Goals as goal

pub returns-clause-done : goal.returns-clause-done
returns-clause-done c =
    let m = c.args.machine.now in
    let on : goes_on c.args.budget (state m) (length m.history) ≡ true = sym c.goes_on.ensures ∙ c.if-not-goes_on.false in
    on_ok c.apply.result
    (λ done.
    done c.event_behind-event.new.predictor
    ∙ c.event_behind-event.ensures.event
    ∙ sym (on_turn m.accepted.program (units_of m) c.args.budget c.args.position (course m c.args.predictor.now) on))
    c.apply.ensures.done
