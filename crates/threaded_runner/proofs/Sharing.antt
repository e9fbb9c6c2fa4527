-- The first unit of a share that does not wait, round the ring.
use Rattle.threaded_runner.proofs.Imports.{◌≡◌, ℕ, List, [], ◌∷◌, ◌+◌, ◌-◌, ◌%◌, ◌<◌, ◌≤◌, length, Bool, true, false, inl, inr, refl, sym, ap, ◌∙◌, subst, arith, true≢false, ltb-true, cases_lt, mod-lt, ◌&&◌, nat_lt, if◌then◌else◌, IfNone, slice_get, option_map, Active, Spot, is_running, most_events, Exec, MachineView, state, units_of, unit_for, turn_of, turn_at_position, position_of_unit, Turn, Wait, Share, IsShareOf, IsServed, IsFirst, AllWait, WaitBetween, IsFirstBetween, distance}
use Rattle.std.specs.Prelude.{Option, Some, None}
use Rattle.threaded_runner.proofs.Rounds.{from_it, below_it, own_remainder, by_one}

-- a unit that does not wait is on the ring

outside : (a b c : Bool) (t : Turn) → c ≡ false → (if a && b && c then t else Wait) ≡ Wait
outside false b c t e = refl
outside true false c t e = refl
outside true true false t e = refl
outside true true true t e = absurd (true≢false e)

is_in : (a b c : Bool) (t : Turn) → ((if a && b && c then t else Wait) ≡ Wait → ⊥) → c ≡ true
is_in a b true t ready = refl
is_in a b false t ready = absurd (ready (outside a b false t refl))

pub on_ring : (m : MachineView) (unit : ℕ) → (turn_of m unit ≡ Wait → ⊥) → unit < units_of m
on_ring m unit ready =
    ltb-true unit (units_of m)
    (is_in (is_running (state m).outcome) (nat_lt (length m.history) most_events) (nat_lt unit (units_of m))
    (turn_at_position m (position_of_unit (units_of m) (length (state m).commits) unit)) ready)

-- how far a unit is from the head

same_start : (m : MachineView) (head : ℕ) → unit_for m (Exec 0) ≡ head → length (state m).commits % units_of m ≡ head
same_start m head is =
    let same : length (state m).commits ≡ length (state m).commits + 0 = omega arith in
    ap (λ (x : ℕ). x % units_of m) same ∙ is

distance_by : (m : MachineView) (head unit : ℕ) → unit_for m (Exec 0) ≡ head → distance m unit ≡ (unit + (units_of m - head)) % units_of m
distance_by m head unit is = ap (λ (x : ℕ). (unit + (units_of m - x)) % units_of m) (same_start m head is)

head_within : (m : MachineView) (head : ℕ) → 0 < units_of m → unit_for m (Exec 0) ≡ head → head < units_of m
head_within m head some is = subst (λ (x : ℕ). x < units_of m) is (mod-lt (length (state m).commits + 0) some)

far : (m : MachineView) (head unit : ℕ) → unit_for m (Exec 0) ≡ head → head < units_of m → unit < units_of m → head ≤ unit → distance m unit ≡ unit - head
far m head unit is in_ring within after = distance_by m head unit is ∙ from_it (units_of m) head unit in_ring within after

near : (m : MachineView) (head unit : ℕ) → unit_for m (Exec 0) ≡ head → head < units_of m → unit < head → distance m unit ≡ unit + (units_of m - head)
near m head unit is in_ring below = distance_by m head unit is ∙ below_it (units_of m) head unit in_ring below

-- a worker for each unit

pub only_unit : (m : MachineView) (s : Share) → IsShareOf (units_of m) s.workers s → s.workers ≡ s.units → (turn_of m s.worker ≡ Wait → ⊥) → IsFirst m s s.worker
only_unit m s share each ready =
    let within : s.worker < s.workers = share.is_worker in
    record {
      is_served = record { on_ring = omega arith; is_own = own_remainder s.workers s.worker within };
      is_ready = ready;
      is_first = λ other served nearer.
          let small : other < s.workers = omega (arith, served.on_ring) in
          let same : other ≡ s.worker = sym (own_remainder s.workers other small) ∙ served.is_own in
          let less : distance m other < distance m s.worker = nearer in
          let equal : distance m other ≡ distance m s.worker = ap (λ (u : ℕ). distance m u) same in
          absurd (omega arith);
    }

pub only_waits : (m : MachineView) (s : Share) → IsShareOf (units_of m) s.workers s → s.workers ≡ s.units → turn_of m s.worker ≡ Wait → AllWait m s
only_waits m s share each waits = λ other served.
    let small : other < s.workers = omega (arith, served.on_ring) in
    let same : other ≡ s.worker = sym (own_remainder s.workers other small) ∙ served.is_own in
    ap (λ (u : ℕ). turn_of m u) same ∙ waits

-- one worker for all units

pub head_first : (m : MachineView) (s : Share) (head : ℕ) → IsShareOf (units_of m) s.workers s → s.workers ≡ 1 → unit_for m (Exec 0) ≡ head → (turn_of m head ≡ Wait → ⊥) → IsFirst m s head
head_first m s head share one is ready =
    let within : head < units_of m = on_ring m head ready in
    let zero_far : distance m head ≡ head - head = far m head head is within within (omega arith) in
    let first : s.worker < s.workers = share.is_worker in
    let none : head % 1 ≡ 0 = by_one head in
    record {
      is_served = record {
        on_ring = omega (arith, share.of_units);
        is_own = ap (λ (w : ℕ). head % w) one ∙ none ∙ (omega arith);
      };
      is_ready = ready;
      is_first = λ other served nearer.
          let less : distance m other < distance m head = nearer in
          absurd (omega arith);
    }

-- several units for each worker

pub first_high : (m : MachineView) (s : Share) (head unit : ℕ) → IsShareOf (units_of m) s.workers s → unit_for m (Exec 0) ≡ head → IsFirstBetween m s head s.units unit → IsFirst m s unit
first_high m s head unit share is found =
    let units : s.units ≡ units_of m = share.of_units in
    let low : head ≤ unit = found.low in
    let high : unit < s.units = found.high in
    let in_ring : head < units_of m = omega arith in
    let here : distance m unit ≡ unit - head = far m head unit is in_ring (omega arith) low in
    record {
      is_served = record { on_ring = high; is_own = found.is_own };
      is_ready = found.is_ready;
      is_first = λ other served nearer.
          let inside : other < s.units = served.on_ring in
          let less : distance m other < distance m unit = nearer in
          elim (cases_lt other head) [
            | inr after ↦
                let there : distance m other ≡ other - head = far m head other is in_ring (omega arith) after in
                found.before other after (omega arith) served.is_own
            | inl below ↦
                let there : distance m other ≡ other + (units_of m - head) = near m head other is in_ring below in
                absurd (omega arith)
          ];
    }

pub first_low : (m : MachineView) (s : Share) (head unit : ℕ) → IsShareOf (units_of m) s.workers s → unit_for m (Exec 0) ≡ head → WaitBetween m s head s.units → IsFirstBetween m s 0 head unit → IsFirst m s unit
first_low m s head unit share is high found =
    let units : s.units ≡ units_of m = share.of_units in
    let below_head : unit < head = found.high in
    let within : unit < units_of m = on_ring m unit found.is_ready in
    let in_ring : head < units_of m = head_within m head (omega arith) is in
    let here : distance m unit ≡ unit + (units_of m - head) = near m head unit is in_ring below_head in
    record {
      is_served = record { on_ring = omega arith; is_own = found.is_own };
      is_ready = found.is_ready;
      is_first = λ other served nearer.
          let inside : other < s.units = served.on_ring in
          let less : distance m other < distance m unit = nearer in
          elim (cases_lt other head) [
            | inr after ↦ high other after inside served.is_own
            | inl below ↦
                let there : distance m other ≡ other + (units_of m - head) = near m head other is in_ring below in
                found.before other (omega arith) (omega arith) served.is_own
          ];
    }

pub all_between : (m : MachineView) (s : Share) (head : ℕ) → WaitBetween m s head s.units → WaitBetween m s 0 head → AllWait m s
all_between m s head high low = λ other served.
    let inside : other < s.units = served.on_ring in
    elim (cases_lt other head) [
      | inr after ↦ high other after inside served.is_own
      | inl below ↦ low other (omega arith) below served.is_own
    ]

-- one unit more

pub one_more_waits : (m : MachineView) (s : Share) (from unit : ℕ) → WaitBetween m s from unit → (unit % s.workers ≡ s.worker → turn_of m unit ≡ Wait) → WaitBetween m s from (unit + 1)
one_more_waits m s from unit before here = λ other low high own.
    elim (cases_lt other unit) [
      | inl below ↦ before other low below own
      | inr after ↦
          let same : other ≡ unit = omega arith in
          ap (λ (u : ℕ). turn_of m u) same ∙ here (ap (λ (u : ℕ). u % s.workers) (sym same) ∙ own)
    ]

-- what follows where there is none

pub none_then : {X : Type 0} (r : Option X) {P Q : Type 0} → IfNone r P → (P → Q) → IfNone r Q
none_then None h f = f h
none_then (Some x) h f = tt

-- a unit stands at position 0
pub at_work : (us : List Active) (spot : Spot) → Some spot ≡ option_map (λ (u : Active). u.place) (slice_get us 0) → 0 < length us
at_work [] spot e = absurd (cc)
at_work (u ∷ us) spot e = omega arith

-- one worker serves the head
pub head_served : (m : MachineView) (s : Share) (units workers : ℕ) → units_of m ≡ units → IsShareOf units workers s → s.workers ≡ 1 → 0 < units_of m → IsServed s (unit_for m (Exec 0))
head_served m s units workers is share one some =
    let within : unit_for m (Exec 0) < units_of m = mod-lt (length (state m).commits + 0) some in
    let mine : s.worker ≡ 0 = omega (arith, share.is_worker, share.of_workers) in
    record {
      on_ring = omega (arith, within, share.of_units);
      is_own = ap (λ (w : ℕ). unit_for m (Exec 0) % w) one ∙ by_one (unit_for m (Exec 0)) ∙ sym mine;
    }
