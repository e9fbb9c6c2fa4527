-- The tail has not stopped, so that a task begins only where one is guessed.
use Rattle.demonstration.proofs.Imports.{refl, sym, ap, ◌∙◌, slice_get, slice_get_past, slice_get_read, Event, has_open_tail, next_place, state_after}
use Rattle.std.proofs.Common.{◌≡◌, List, Some, None, true, length}
use Rattle.demonstration.proofs.Rounding.{begins_guessed, begins_no_guess}
use Rattle.demonstration.proofs.rounds.begin_on_free.Goals as goal

pub returns-in_ok-try_event-in-Some : goal.returns-in_ok-try_event-in-Some
returns-in_ok-try_event-in-Some c =
    let d = c.args.driven.now in
    let guesses = c.args.guesses.now in
    let s = state_after d.program d.run in
    let found = c.in-Some.ensures.lookup in
    let is_open : has_open_tail s ≡ true = ap has_open_tail (sym c.machine.ensures.state) ∙ sym c.has_open_tail.ensures ∙ c.if-not-has_open_tail.false in
    let place : next_place s ≡ c.next_place.result = ap next_place (sym c.machine-2.ensures.state) ∙ sym c.next_place.ensures in
    let guess : slice_get guesses (next_place s) ≡ Some c.in-Some.task.now =
    ap (slice_get guesses) place ∙ slice_get_read guesses (length guesses) c.next_place.result c.in-Some.task.now refl found.3.0 found.1 in
    c.in_ok-try_event-in-Some.ensures.run ∙ ap (λ (run : List Event). record d { run = run }) (sym (begins_guessed d.program d.units guesses d.run c.in-Some.task.now is_open guess))

pub returns-in-None : goal.returns-in-None
returns-in-None c =
    let d = c.args.driven.now in
    let guesses = c.args.guesses.now in
    let s = state_after d.program d.run in
    let is_open : has_open_tail s ≡ true = ap has_open_tail (sym c.machine.ensures.state) ∙ sym c.has_open_tail.ensures ∙ c.if-not-has_open_tail.false in
    let place : next_place s ≡ c.next_place.result = ap next_place (sym c.machine-2.ensures.state) ∙ sym c.next_place.ensures in
    let guess : slice_get guesses (next_place s) ≡ None = ap (slice_get guesses) place ∙ slice_get_past guesses c.next_place.result c.in-None.ensures.lookup.3 in
    ap (λ (run : List Event). record d { run = run }) (sym (begins_no_guess d.program d.units guesses d.run is_open guess))
