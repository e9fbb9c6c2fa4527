-- What is allowed of a unit that waits: nothing but a Drop, or an Exec ahead of the head, where it pauses.
use Rattle.unit_turns.proofs.Imports.{◌≡◌, ℕ, zero, suc, ◌+◌, ◌%◌, ◌<◌, ◌≤◌, inl, inr, Bool, true, false, cond, List, [], ◌∷◌, length, Option, Some, None, refl, sym, ap, ◌∙◌, arith, true≢false, slice_get, nat_lt, is_none, IfNone, if◌then◌else◌, find, range_with_len, last_or, cases_eq, cases_lt, ltb-true, slice_get_within, Listing, Active, State, follows, unless, for_some, refusal, most_events, Event, Assign, Exec, Transfer, Drain, Squash, Retire, Fault, Drop, Refused, NoSuch, Running, MachineView, state, units_of, unit_for, choices_of, choice_of, MayFollow, executed_in, registers, first_allowed, own_events, pauses, turn_ahead, turn_of_free, apply_or_wait, turn_of, NamesRegister, MayWait, Apply, Burst, Wait}
use Rattle.unit_turns.proofs.EventOrder.{finds_transfer, finds_squash, finds_drain, finds_exec}
use Rattle.unit_turns.proofs.RingPlaces.{at_place, at_work, at_free}

-- where no register is found, none passes the test

passed_over : (b : Bool) (x : ℕ) (o : Option ℕ) → cond b (Some x) o ≡ None → (b ≡ false) × (o ≡ None)
passed_over true x o e = absurd (cc)
passed_over false x o e = (refl, e)

none_passes : (test : ℕ → Bool) (n from r : ℕ) → find test (range_with_len from n) ≡ None → from ≤ r → r < from + n → test r ≡ false
none_passes test zero from r e low high = absurd (omega arith)
none_passes test (suc n) from r e low high =
    let both = passed_over (test from) from (find test (range_with_len (from + 1) n)) e in
    elim (cases_eq from r) [
      | inl same ↦ ap test (sym same) ∙ both.0
      | inr other ↦ none_passes test n (from + 1) r both.1 (omega arith) (omega arith)
    ]

no_register : (refusals : ℕ → Option Refused) (r : ℕ) → find (λ x. is_none (refusals x)) registers ≡ None → r < 34 → refusals r ≡ None → ⊥
unfolding registers
no_register refusals r none below e =
    true≢false (sym (ap is_none e) ∙ none_passes (λ x. is_none (refusals x)) 34 0 r none (omega arith) (omega arith))

-- a unit at work ahead of the head that waits

must_pause : (pausing : Bool) → (if pausing then Wait else Burst) ≡ Wait → pausing ≡ true
must_pause true e = refl
must_pause false e = absurd (cc)

module _ (p : Listing) (units : ℕ) (s : State) (k : ℕ) (pausing : Bool) (waits : turn_ahead pausing (first_allowed p units s (own_events k)) ≡ Wait) where
  abbrev taken : Option ℕ
  taken = find (λ r. is_none (refusal p units s (Transfer k r))) registers

  abbrev sent : Option ℕ
  sent = find (λ r. is_none (refusal p units s (Drain k r))) registers

  finds : (o : Option Event) → first_allowed p units s (own_events k) ≡ o → turn_ahead pausing o ≡ Wait
  finds o e = ap (turn_ahead pausing) (sym e) ∙ waits

  none_taken : taken ≡ None
  none_taken = (elim taken as (λ o. taken ≡ o → taken ≡ None) [
    | None ↦ λ e. e
    | Some r ↦ λ e. (let w : Apply (Transfer k r) ≡ Wait = finds (Some (Transfer k r)) (finds_transfer p units s k r e) in absurd (cc))
  ]) refl

  no_squash : refusal p units s (Squash k) ≡ None → ⊥
  no_squash e = (let w : Apply (Squash k) ≡ Wait = finds (Some (Squash k)) (finds_squash p units s k none_taken e) in cc)

  none_sent : sent ≡ None
  none_sent = (elim sent as (λ o. sent ≡ o → sent ≡ None) [
    | None ↦ λ e. e
    | Some r ↦ λ e. (let w : Apply (Drain k r) ≡ Wait = finds (Some (Drain k r)) (finds_drain p units s k r none_taken no_squash e) in absurd (cc))
  ]) refl

  pub no_transfer : (r : ℕ) → r < 34 → refusal p units s (Transfer k r) ≡ None → ⊥
  no_transfer r below e = no_register (λ x. refusal p units s (Transfer k x)) r none_taken below e

  pub squash_refused : refusal p units s (Squash k) ≡ None → ⊥
  squash_refused e = no_squash e

  pub no_drain : (r : ℕ) → r < 34 → refusal p units s (Drain k r) ≡ None → ⊥
  no_drain r below e = no_register (λ x. refusal p units s (Drain k x)) r none_sent below e

  pub executes_not : refusal p units s (Exec k) ≡ None → pausing ≡ true
  executes_not e = must_pause pausing (finds (Some (Exec k)) (finds_exec p units s k none_taken no_squash none_sent e))

-- a free unit that waits

not_waiting : (e : Event) → Apply e ≡ Wait → ⊥
not_waiting e w = cc

no_choice : (o : Option Event) → apply_or_wait o ≡ Wait → o ≡ None
no_choice None e = refl
no_choice (Some event) e = absurd (not_waiting event e)

pub none_follows : (p : Listing) (s : State) (targets : List ℕ) → turn_of_free p s targets ≡ Wait → choice_of p s 0 ≡ None
none_follows p s [] e = no_choice (choice_of p s 0) e
none_follows p s (t ∷ ts) e = absurd (cc)

passed : (b : Bool) (why : Refused) (behind : Option Refused) → unless b why behind ≡ None → (b ≡ true) × (behind ≡ None)
passed true why behind e = (refl, e)
passed false why behind e = absurd (cc)

pub assign_follows : (p : Listing) (units : ℕ) (s : State) (t : ℕ) → refusal p units s (Assign t) ≡ None → (length s.queue < units) × MayFollow p s t
assign_follows p units s t e =
    let first = passed (nat_lt (length s.queue) units) _ _ e in
    let second = passed (nat_lt t (length p.tasks)) _ _ first.1 in
    let third = passed (follows p s.next t (last_or None s.queue)) _ _ second.1 in
    (ltb-true (length s.queue) units first.0, (ltb-true t (length p.tasks) second.0, third.0))

pub no_task_by : (m : MachineView) (o : Option Event) → o ≡ choice_of m.accepted.program (state m) 0
    → IfNone o ((state m).outcome ≡ Running → (task : ℕ) → MayFollow m.accepted.program (state m) task → ⊥) → (state m).outcome ≡ Running
    → choice_of m.accepted.program (state m) 0 ≡ None → (t : ℕ) → MayFollow m.accepted.program (state m) t → ⊥
no_task_by m None same none running absent t may = none running t may
no_task_by m (Some e) same none running absent t may = (let found : Some e ≡ None = same ∙ absent in absurd (cc))

-- the position of an event that is allowed

some_there : {A : Type 0} (o : Option A) (f : A → Option Refused) → for_some o NoSuch f ≡ None → (x : A) × (o ≡ Some x)
some_there None f e = absurd (cc)
some_there (Some x) f e = (x, refl)

is_within : {A : Type 0} (xs : List A) (k : ℕ) (f : A → Option Refused) → for_some (slice_get xs k) NoSuch f ≡ None → k < length xs
is_within xs k f e = (let found = some_there (slice_get xs k) f e in slice_get_within xs k found.0 found.1)

module _ (m : MachineView) (unit : ℕ) (running : (state m).outcome ≡ Running) (room : length m.history < most_events) (fits : length (state m).queue ≤ units_of m)
    (head_goes_on : turn_of m (unit_for m (Exec 0)) ≡ Wait → ⊥)
    (no_task : choice_of m.accepted.program (state m) 0 ≡ None → (t : ℕ) → MayFollow m.accepted.program (state m) t → ⊥)
    (waits : turn_of m unit ≡ Wait) where
  abbrev p : Listing
  p = m.accepted.program

  abbrev queue : List Active
  queue = (state m).queue

  abbrev pausing : Bool
  pausing = pauses (state m) (executed_in m.history)

  not_head : unit_for m (Exec 0) ≡ unit → ⊥
  not_head at = head_goes_on (ap (turn_of m) at ∙ waits)

  ahead : (k : ℕ) → suc k < length queue → unit_for m (Exec (suc k)) ≡ unit → turn_ahead pausing (first_allowed p (units_of m) (state m) (own_events (suc k))) ≡ Wait
  ahead k within at =
      sym (at_place m unit (suc k) running room (omega arith) at ∙ at_work m (suc k) (omega arith) within) ∙ waits

  free : length queue < units_of m → (retired : (length (state m).commits + length queue) % units_of m ≡ unit) → choice_of p (state m) 0 ≡ None
  free some at = elim (cases_lt 0 (length queue)) [
    | inl behind ↦ none_follows p (state m) (choices_of p (state m)) (sym (at_place m unit (length queue) running room some at ∙ at_free m (length queue) behind refl) ∙ waits)
    | inr none ↦ absurd (not_head (
        let zero : 0 ≡ length queue = omega arith in
        ap (λ (x : ℕ). (length (state m).commits + x) % units_of m) zero ∙ at))
  ]

  pub allowed_of_waiting : (e : Event) → NamesRegister e → refusal p (units_of m) (state m) e ≡ None → unit_for m e ≡ unit → MayWait m e
  allowed_of_waiting (Assign t) names e at =
      (let follows = assign_follows p (units_of m) (state m) t e in absurd (no_task (free follows.0 at) t follows.1))
  allowed_of_waiting (Exec zero) names e at = absurd (not_head at)
  allowed_of_waiting (Exec (suc k)) names e at =
      executes_not p (units_of m) (state m) (suc k) pausing (ahead k (is_within queue (suc k) _ e) at) e
  allowed_of_waiting (Transfer zero r) names e at = absurd (cc)
  allowed_of_waiting (Transfer (suc k) r) names e at =
      absurd (no_transfer p (units_of m) (state m) (suc k) pausing (ahead k (is_within queue (suc k) _ e) at) r names e)
  allowed_of_waiting (Drain zero r) names e at = absurd (not_head at)
  allowed_of_waiting (Drain (suc k) r) names e at =
      absurd (no_drain p (units_of m) (state m) (suc k) pausing (ahead k (is_within queue (suc k) _ e) at) r names e)
  allowed_of_waiting (Squash zero) names e at = absurd (not_head at)
  allowed_of_waiting (Squash (suc k)) names e at =
      (let within : suc (suc k) < length queue = is_within queue (suc (suc k)) _ e in
      absurd (squash_refused p (units_of m) (state m) (suc k) pausing (ahead k (omega arith) at) e))
  allowed_of_waiting Retire names e at = absurd (not_head at)
  allowed_of_waiting Fault names e at = absurd (not_head at)
  allowed_of_waiting (Drop k) names e at = tt
