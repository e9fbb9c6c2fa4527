use Rattle.unit_turns.proofs.Imports.{◌≡◌, None, sym, ap, ◌∙◌, subst, refusal, Event, state, units_of, unit_for}
use Rattle.unit_turns.proofs.Assigning.{assign_allowed}
use Rattle.unit_turns.proofs.deciding.turn_of_free.Goals as goal

pub returns-in-Some-clause-own : goal.returns-in-Some-clause-own
returns-in-Some-clause-own c =
    let m = c.args.machine.now in
    let p = m.accepted.program in
    let may = c.in-Some.ensures.follows in
    c.law_own_event.ensures.unrefused c.in-Some.event c.args.unit c.requires.running
    (subst (λ (e : Event). refusal p (units_of m) (state m) e ≡ None) (sym may.1) (assign_allowed p (units_of m) (state m) may.0 c.requires.free may.2))
    c.requires.room
    (ap (λ (e : Event). unit_for m e) may.1 ∙ c.requires.next may.0)
