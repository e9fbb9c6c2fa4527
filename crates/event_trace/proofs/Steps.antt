-- An event on a machine, and the state that it and the events after it leave.
use Rattle.std.proofs.Common.{◌≡◌, ℕ, suc, ◌+◌, ◌<◌, List, [], ◌∷◌, ◌++◌, length, drop, get_or, Some, None, Result, Ok, Err, refl, sym, ap, ◌∙◌, add-one, drop-cons}
use Rattle.task_descriptor.specs.Listing.{Listing}
use Rattle.machine_model.specs.Machine.{State, opening}
use Rattle.machine_model.specs.Answer.{after, answer, answered, first_refusal, ok_unless, play, play_event}
use Rattle.std.specs.List.{fold}
use Rattle.machine_model.specs.declared.event.Event.{Event}
use Rattle.machine_model.specs.declared.event.Refused.{Refused}
use Rattle.sequencer.specs.Machines.{MachineView, answer_to, state, units_of}
use Rattle.event_trace.specs.Entries.{count_behind, state_behind}
use Rattle.event_trace.specs.Following.{GoesOn, state_from}

-- where two machines run one program on as many units, they answer alike
pub answers_by : (p : Listing) (units : ℕ) (m : MachineView) (e : Event) → m.accepted.program ≡ p → units_of m ≡ units → answer_to m e ≡ answer p units (state m) (length m.history) e
answers_by p units m e over ring =
    ap (λ (q : Listing). answer q (units_of m) (state m) (length m.history) e) over ∙ ap (λ (k : ℕ). answer p k (state m) (length m.history) e) ring

-- the next event, and what comes after it
next_of : (events : List Event) (i : ℕ) (e : Event) → i < length events → e ≡ get_or events i e → drop i events ≡ e ∷ drop (i + 1) events
next_of events i e within there =
    drop-cons events i e within
    ∙ ap (λ (k : ℕ). get_or events i e ∷ drop k events) (sym (add-one i))
    ∙ ap (λ (x : Event). x ∷ drop (i + 1) events) (sym there)

-- the events that are left leave the state that all leave
state_more : (p : Listing) (units i n n' : ℕ) (s s' all : State) (events : List Event) (e : Event) (a : Result (Unit {0}) Refused)
    → i < length events → e ≡ get_or events i e → a ≡ answer p units s n e → s' ≡ state_behind p s e a → n' ≡ count_behind n a
    → state_from p units n s (drop i events) ≡ all → state_from p units n' s' (drop (i + 1) events) ≡ all
state_more p units i n n' s s' all events e a within there answered behind counted before =
    let rest = drop (i + 1) events in
    ap (λ (k : ℕ). state_from p units k s' rest) (counted ∙ ap (λ (x : Result (Unit {0}) Refused). count_behind n x) answered)
    ∙ ap (λ (t : State). state_from p units (count_behind n (answer p units s n e)) t rest) (behind ∙ ap (λ (x : Result (Unit {0}) Refused). state_behind p s e x) answered)
    ∙ ap (λ (es : List Event). state_from p units n s es) (sym (next_of events i e within there))
    ∙ before

pub state_on : (p : Listing) (units i : ℕ) (m m' : MachineView) (all : State) (events : List Event) (e : Event)
    → m.accepted.program ≡ p → units_of m ≡ units → GoesOn m e m' → i < length events → e ≡ get_or events i e
    → state_from p units (length m.history) (state m) (drop i events) ≡ all
    → state_from p units (length m'.history) (state m') (drop (i + 1) events) ≡ all
state_on p units i m m' all events e over ring on within there before =
    let behind = on.state ∙ ap (λ (q : Listing). state_behind q (state m) e (answer_to m e)) over in
    state_more p units i (length m.history) (length m'.history) (state m) (state m') all events e (answer_to m e)
    within there (answers_by p units m e over ring) behind on.count before

-- `play` leaves that state, whatever was answered before
played_from : (p : Listing) (units n : ℕ) (s : State) (answers : List (Result (Unit {0}) Refused)) (es : List Event)
    → (fold (play_event p units) (record { answers = answers; state = s; count = n }) es).state ≡ state_from p units n s es
played_from p units n s answers [] = refl
played_from p units n s answers (e ∷ es) =
    elim (first_refusal p units s n e) as (λ o. (fold (play_event p units) (answered o (after p s e) (record { answers = answers; state = s; count = n })) es).state
    ≡ state_from p units (count_behind n (ok_unless o)) (state_behind p s e (ok_unless o)) es) [
      | None ↦ played_from p units (suc n) (after p s e) (answers ++ Ok tt ∷ []) es
      | Some why ↦ played_from p units n s (answers ++ Err why ∷ []) es
    ]

pub played : (p : Listing) (units : ℕ) (es : List Event) → state_from p units 0 (opening p) es ≡ (play p units es).state
played p units es = sym (played_from p units 0 (opening p) [] es)
