-- What the turn of the head's unit says: it waits only where all units do, and where the head may execute an
-- instruction it executes.
use Rattle.threaded_runner.proofs.Imports.{◌≡◌, ℕ, ◌+◌, ◌-◌, ◌%◌, ◌<◌, ◌⊎◌, List, [], ◌∷◌, length, Bool, true, false, Option, Some, None, inl, inr, refl, sym, ap, ◌∙◌, subst, arith, true≢false, lt-ltb, ltb-true, mod-lt, ◌&&◌, nat_lt, if◌then◌else◌, slice_get, Listing, Active, State, is_running, most_events, head_event, event_of_queue, event_of_head, Event, Exec, Spot, MachineView, state, units_of, unit_for, turn_of, turn_of_head, turn_at_position, fits_burst, position_of_unit, Turn, Wait, IsNamed}
use Rattle.machine_model.specs.Step.{Next}
use Rattle.machine_model.specs.declared.event.Spot.TheVariants.{Inside}
use Rattle.machine_model.specs.declared.event.Standing.{Standing}
use Rattle.machine_model.specs.declared.event.Standing.TheVariants as standing
use Rattle.threaded_runner.proofs.Rounds.{itself}

-- tests

pub runs : (o : Standing) → is_running o ≡ true → o ≡ standing.Running
runs standing.Running e = refl
runs standing.Halted e = absurd (true≢false (sym e))
runs (standing.Trapped trap) e = absurd (true≢false (sym e))
runs (standing.Unlisted at) e = absurd (true≢false (sym e))

waits_ended : (a b c : Bool) (t : Turn) → a ≡ false → (if a && b && c then t else Wait) ≡ Wait
waits_ended false b c t e = refl
waits_ended true b c t e = absurd (true≢false e)

waits_full : (a b c : Bool) (t : Turn) → b ≡ false → (if a && b && c then t else Wait) ≡ Wait
waits_full false false c t e = refl
waits_full true false c t e = refl
waits_full a true c t e = absurd (true≢false e)

goes : (a b c : Bool) (t : Turn) → a ≡ true → b ≡ true → c ≡ true → (if a && b && c then t else Wait) ≡ t
goes true true true t ea eb ec = refl
goes false b c t ea eb ec = absurd (true≢false (sym ea))
goes true false c t ea eb ec = absurd (true≢false (sym eb))
goes true true false t ea eb ec = absurd (true≢false (sym ec))

either : (b : Bool) → (b ≡ true) ⊎ (b ≡ false)
either true = inl refl
either false = inr refl

-- the unit at position 0 waits only where all do

pub all_wait : (m : MachineView) → ((state m).outcome ≡ standing.Running → length m.history < most_events → turn_of m (unit_for m (Exec 0)) ≡ Wait → ⊥)
    → turn_of m (unit_for m (Exec 0)) ≡ Wait → (unit : ℕ) → turn_of m unit ≡ Wait
all_wait m goes_on head unit =
    let a = is_running (state m).outcome in
    let b = nat_lt (length m.history) most_events in
    let c = nat_lt unit (units_of m) in
    let t = turn_at_position m (position_of_unit (units_of m) (length (state m).commits) unit) in
    elim (either a) [
      | inr ended ↦ waits_ended a b c t ended
      | inl running ↦ elim (either b) [
        | inr full ↦ waits_full a b c t full
        | inl room ↦ absurd (goes_on (runs (state m).outcome running) (ltb-true (length m.history) most_events room) head)
      ]
    ]

-- a head that executes an instruction has it as its head event, and the turn of its unit is this event or a burst

some_is : {A : Type 0} (x y : A) → Some x ≡ Some y → x ≡ y
some_is x y e = cc

of_queue : (p : Listing) (next : ℕ) (us : List Active) (u : Active) (index : ℕ) → slice_get us 0 ≡ Some u → u.place ≡ Inside index → event_of_queue p next us ≡ Some (Exec 0)
of_queue p next [] u index e h = absurd (cc)
of_queue p next (v ∷ vs) u index e h =
    ap (λ (spot : Spot). Some (event_of_head p v vs spot)) (ap (λ (x : Active). x.place) (some_is v u e) ∙ h)

if_runs : (o : Standing) (e : Option Event) → o ≡ standing.Running → (if is_running o then e else None) ≡ e
if_runs standing.Running e h = refl
if_runs standing.Halted e h = absurd (cc)
if_runs (standing.Trapped trap) e h = absurd (cc)
if_runs (standing.Unlisted at) e h = absurd (cc)

is_run : (o : Standing) → o ≡ standing.Running → is_running o ≡ true
is_run o h = ap is_running h

pub head_event_is : (p : Listing) (units : ℕ) (s s' : State) → Next p units s (Exec 0) s' → head_event p s ≡ Some (Exec 0)
head_event_is p units s s' h =
    if_runs s.outcome (event_of_queue p s.next s.queue) h.runs
    ∙ of_queue p s.next s.queue h.does.unit h.does.index h.does.is_unit h.does.next.is_inside

at_front : (m : MachineView) → 0 < units_of m → position_of_unit (units_of m) (length (state m).commits) (unit_for m (Exec 0)) ≡ 0
at_front m some =
    let n = units_of m in
    let c = length (state m).commits in
    let same : c + 0 ≡ c = omega arith in
    ap (λ (x : ℕ). (x % n + (n - c % n)) % n) same ∙ itself n (c % n) (mod-lt c some)

pub turn_is : (m : MachineView) (s' : State) → 0 < units_of m → length m.history < most_events → Next m.accepted.program (units_of m) (state m) (Exec 0) s'
    → turn_of m (unit_for m (Exec 0)) ≡ turn_of_head (fits_burst m.accepted.program (slice_get (state m).queue 0)) (Some (Exec 0))
turn_is m s' some room next =
    let unit = unit_for m (Exec 0) in
    let t = turn_at_position m (position_of_unit (units_of m) (length (state m).commits) unit) in
    let same : length (state m).commits + 0 ≡ length (state m).commits = omega arith in
    let within : unit < units_of m = mod-lt (length (state m).commits + 0) some in
    goes (is_running (state m).outcome) (nat_lt (length m.history) most_events) (nat_lt unit (units_of m)) t
    (is_run (state m).outcome next.runs) (lt-ltb (length m.history) most_events room) (lt-ltb unit (units_of m) within)
    ∙ ap (λ (k : ℕ). turn_at_position m k) (at_front m some)
    ∙ ap (λ (e : Option Event). turn_of_head (fits_burst m.accepted.program (slice_get (state m).queue 0)) e)
    (head_event_is m.accepted.program (units_of m) (state m) s' next)

by_burst : (m : MachineView) (unit : ℕ) (fits : Bool) (t : Turn) → unit_for m (Exec 0) ≡ unit → t ≡ turn_of_head fits (Some (Exec 0)) → IsNamed m unit t (Exec 0)
by_burst m unit true t belongs is = subst (λ (x : Turn). IsNamed m unit x (Exec 0)) (sym is) (inl (0, refl, belongs))
by_burst m unit false t belongs is = subst (λ (x : Turn). IsNamed m unit x (Exec 0)) (sym is) (inl refl)

pub exec_is_named : (m : MachineView) (s' : State) (unit : ℕ) → 0 < units_of m → unit_for m (Exec 0) ≡ unit → length m.history < most_events → Next m.accepted.program (units_of m) (state m) (Exec 0) s'
    → IsNamed m unit (turn_of m unit) (Exec 0)
exec_is_named m s' unit some belongs room next =
    by_burst m unit (fits_burst m.accepted.program (slice_get (state m).queue 0)) (turn_of m unit) belongs
    (ap (λ (u : ℕ). turn_of m u) (sym belongs) ∙ turn_is m s' some room next)
