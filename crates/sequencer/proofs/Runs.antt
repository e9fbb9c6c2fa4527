-- What follows of a state from its being a replay: by induction on the events, each event by its record.
use Rattle.std.proofs.Common.{◌≡◌, ℕ, suc, ◌+◌, ◌<◌, ◌≤◌, List, [], ◌∷◌, ◌++◌, length, sym, ap, subst, arith}
use Rattle.std.specs.List.{All}
use Rattle.std.proofs.lemmas.List.Elements.{All-nil, All-cons}
use Rattle.std.proofs.lemmas.Option.{slice_get_within}
use Rattle.task_descriptor.specs.Listing.{Listing}
use Rattle.machine_model.specs.Machine.{State, opening}
use Rattle.machine_model.specs.Step.{Next}
use Rattle.machine_model.specs.Replay.{ReplaysFrom, Replays}
use Rattle.processor_steps.specs.Processors.{executed_by}
use Rattle.processor_steps.proofs.Growing.{assigns_grow, executes}
use Rattle.machine_model.specs.Laws.{ReplayCut, EventsCount}
use Rattle.machine_model.specs.HeadEvent.{active_after}
use Rattle.machine_model.specs.declared.event.Event.{Event}
use Rattle.machine_model.specs.declared.event.Event.TheVariants.{Assign, Exec, Transfer, Drain, Squash, Retire, Fault, Drop}
use Rattle.sequencer.specs.Rings.{EventFits}

-- more events after a replay

pub replays_more : ReplayCut → (p : Listing) (units : ℕ) (first second : List Event) (s s' : State) → Replays p units first s → ReplaysFrom p units s second s' → Replays p units (first ++ second) s'
replays_more cut p units first second s s' before more = (cut p units (opening p) s' first second).1 (s, before, more)

-- A number that grows by at most one with each event is at most the number of events

module _ (p : Listing) (units : ℕ) (size : State → ℕ) (grows : (s s' : State) (e : Event) → Next p units s e s' → size s' ≤ suc (size s)) where
  grown : (es : List Event) (s s' : State) → ReplaysFrom p units s es s' → size s' ≤ size s + length es
  grown [] s s' h = (let same : size s' ≡ size s = ap size h in omega arith)
  grown (e ∷ es) s s' h =
      let one : size h.0 ≤ suc (size s) = grows s h.0 e h.1 in
      let rest : size s' ≤ size h.0 + length es = grown es h.0 s' h.2 in
      omega arith

pub replay_executes : (p : Listing) (units : ℕ) (events : List Event) (s : State) → Replays p units events s → executed_by s ≤ length events
replay_executes p units events s h =
    let g = grown p units executed_by (λ s s' e n. executes p units s s' e n) events (opening p) s h in omega arith

pub replay_assigns : (p : Listing) (units : ℕ) (events : List Event) (s : State) → Replays p units events s → s.assigns ≤ length events
replay_assigns p units events s h =
    let g = grown p units (λ (x : State). x.assigns) (λ s s' e n. assigns_grow p units s s' e n) events (opening p) s h in omega arith

-- a queue has at most as many units as there are

fits : (p : Listing) (units : ℕ) (s s' : State) (e : Event) → Next p units s e s' → (length s'.queue ≡ active_after (length s.queue) e) → length s.queue ≤ units → length s'.queue ≤ units
fits p units s s' (Assign t) next same h = (let free : length s.queue < units = next.does.is_free in omega arith)
fits p units s s' (Exec k) next same h = omega arith
fits p units s s' (Transfer k r) next same h = omega arith
fits p units s s' (Drain k r) next same h = omega arith
fits p units s s' (Squash k) next same h =
    let d = next.does in
    let within : suc k < length s.queue = slice_get_within s.queue (suc k) d.after d.is_after in omega arith
fits p units s s' Retire next same h = omega arith
fits p units s s' Fault next same h = omega arith
fits p units s s' (Drop k) next same h =
    let d = next.does in
    let within : k < length s.queue = slice_get_within s.queue k d.unit d.is_unit in omega arith

fits_from : EventsCount → (p : Listing) (units : ℕ) (es : List Event) (s s' : State) → ReplaysFrom p units s es s' → length s.queue ≤ units → length s'.queue ≤ units
fits_from count p units [] s s' h e = subst (λ (x : State). length x.queue ≤ units) (sym h) e
fits_from count p units (x ∷ es) s s' h e =
    fits_from count p units es h.0 s' h.2 (fits p units s h.0 x h.1 (count p units s h.0 x h.1).1 e)

pub queue_fits : EventsCount → (p : Listing) (units : ℕ) (events : List Event) (s : State) → Replays p units events s → length s.queue ≤ units
queue_fits count p units events s h = fits_from count p units events (opening p) s h (omega arith)

-- an event that is allowed names a task or a position that is there

event_fits : (p : Listing) (units : ℕ) (s s' : State) (e : Event) → Next p units s e s' → length s.queue ≤ units → 0 < units → EventFits (length p.tasks) units e
event_fits p units s s' (Assign t) next fits some = next.does.is_task
event_fits p units s s' (Exec k) next fits some =
    let d = next.does in
    let within : k < length s.queue = slice_get_within s.queue k d.unit d.is_unit in omega arith
event_fits p units s s' (Transfer k r) next fits some =
    let d = next.does in
    let within : k < length s.queue = slice_get_within s.queue k d.unit d.is_unit in omega arith
event_fits p units s s' (Drain k r) next fits some =
    let d = next.does in
    let within : k < length s.queue = slice_get_within s.queue k d.unit d.is_unit in omega arith
event_fits p units s s' (Squash k) next fits some =
    let d = next.does in
    let within : k < length s.queue = slice_get_within s.queue k d.unit d.is_unit in omega arith
event_fits p units s s' Retire next fits some = some
event_fits p units s s' Fault next fits some = some
event_fits p units s s' (Drop k) next fits some =
    let d = next.does in
    let within : k < length s.queue = slice_get_within s.queue k d.unit d.is_unit in omega arith

events_fit_from : EventsCount → (p : Listing) (units : ℕ) (es : List Event) (s s' : State) → ReplaysFrom p units s es s' → length s.queue ≤ units → 0 < units → All (EventFits (length p.tasks) units) es
events_fit_from count p units [] s s' h within some = All-nil (EventFits (length p.tasks) units)
events_fit_from count p units (e ∷ es) s s' h within some =
    All-cons (EventFits (length p.tasks) units) e es (event_fits p units s h.0 e h.1 within some)
    (events_fit_from count p units es h.0 s' h.2 (fits p units s h.0 e h.1 (count p units s h.0 e h.1).1 within) some)

pub events_fit : EventsCount → (p : Listing) (units : ℕ) (events : List Event) (s : State) → 0 < units → Replays p units events s → All (EventFits (length p.tasks) units) events
events_fit count p units events s some h = events_fit_from count p units events (opening p) s h (omega arith) some
