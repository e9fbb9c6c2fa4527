-- The unit at position 0 has a turn while the run goes on and the history has room.
use Rattle.unit_turns.proofs.Imports.{◌≡◌, ℕ, ◌<◌, ◌≤◌, ◌∷◌, length, Option, Some, None, refl, sym, ap, ◌∙◌, arith, true≢false, slice_get, IsSome, IfSome, slice_get_within, Listing, State, Next, most_events, head_event, Event, Assign, Exec, Transfer, Drain, Squash, Retire, Fault, Drop, Running, MachineView, state, units_of, unit_for, fits_burst, turn_of_head, turn_of, Wait}
use Rattle.unit_turns.proofs.RingPlaces.{at_place}
use Rattle.unit_turns.proofs.TurnKinds.{head_acts}

-- where an event is allowed there is a unit
pub some_unit : (p : Listing) (units : ℕ) (s s' : State) (e : Event) → length s.queue ≤ units → Next p units s e s' → 0 < units
some_unit p units s s' (Assign t) fits next = (let free : length s.queue < units = next.does.is_free in omega arith)
some_unit p units s s' (Exec k) fits next =
    (let within : k < length s.queue = slice_get_within s.queue k next.does.unit next.does.is_unit in omega arith)
some_unit p units s s' (Transfer k r) fits next =
    (let within : k < length s.queue = slice_get_within s.queue k next.does.unit next.does.is_unit in omega arith)
some_unit p units s s' (Drain k r) fits next =
    (let within : k < length s.queue = slice_get_within s.queue k next.does.unit next.does.is_unit in omega arith)
some_unit p units s s' (Squash k) fits next =
    (let within : k < length s.queue = slice_get_within s.queue k next.does.unit next.does.is_unit in omega arith)
some_unit p units s s' Retire fits next =
    (let some : length s.queue ≡ length (next.does.head ∷ next.does.rest) = ap length next.does.is_queue in omega arith)
some_unit p units s s' Fault fits next =
    (let within : 0 < length s.queue = slice_get_within s.queue 0 next.does.head next.does.is_head in omega arith)
some_unit p units s s' (Drop k) fits next =
    (let within : k < length s.queue = slice_get_within s.queue k next.does.unit next.does.is_unit in omega arith)

abbrev IsAllowed : MachineView → Event → Type 0
IsAllowed m e = (s' : State) × Next m.accepted.program (units_of m) (state m) e s'

pub goes_on : (m : MachineView) (o : Option Event) → o ≡ head_event m.accepted.program (state m) → ((state m).outcome ≡ Running → IsSome o) → IfSome o (IsAllowed m) → length (state m).queue ≤ units_of m
    → (state m).outcome ≡ Running → length m.history < most_events → turn_of m (unit_for m (Exec 0)) ≡ Wait → ⊥
goes_on m None same some allowed fits running room waits = absurd (true≢false (sym (some running)))
goes_on m (Some e) same some allowed fits running room waits =
    let p = m.accepted.program in
    let units : 0 < units_of m = some_unit p (units_of m) (state m) allowed.0 e fits allowed.1 in
    let in_burst = fits_burst p (slice_get (state m).queue 0) in
    head_acts in_burst e (ap (turn_of_head in_burst) same ∙ sym (at_place m (unit_for m (Exec 0)) 0 running room units refl) ∙ waits)
