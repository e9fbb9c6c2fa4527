-- A run on its way: an event is one more in its list, and a turn that ends the run has one.
use Rattle.unit_turns.proofs.Imports.{◌≡◌, ℕ, zero, suc, ◌+◌, ◌-◌, ◌<◌, ◌≤◌, inl, inr, Bool, true, false, cond, List, [], ◌∷◌, ◌++◌, length, Option, Some, None, Ok, Err, refl, sym, ap, ◌∙◌, subst, arith, true≢false, length-append, nat_lt, IsSome, Result, OnOk, cases_Bool, and_parts, ltb-true, Listing, Checked, State, opening, is_running, head_event, Event, Refused, Standing, Running, Halted, Trapped, Unlisted, choices_of, choice_of, MachineView, state, first_allowed, Predictor, Course, beginning, goes_on, with_event, with_targets, with_task, turn, turns, step, after_steps, tries, Takes, course}
use Rattle.unit_turns.specs.Predictions.{answer_for, asked}
use Rattle.unit_turns.specs.Steps.{turn_of}

-- a machine at its start, and one that has made some steps from it

opened : (m : MachineView) (p : Listing) (predictor : Predictor) → state m ≡ opening p → m.history ≡ [] → course m predictor ≡ beginning p predictor
opened m p predictor at_start none =
    ap (λ (s : State). record { state = s; events = m.history; predictor = predictor }) at_start
    ∙ ap (λ (es : List Event). record { state = opening p; events = es; predictor = predictor }) none

pub ran : (m now : MachineView) (accepted : Checked) (units budget steps : ℕ) (from to : Predictor) → m.accepted ≡ accepted → state m ≡ opening accepted.program → m.history ≡ [] → course now to ≡ after_steps m.accepted.program units budget steps (course m from) → course now to ≡ after_steps accepted.program units budget steps (beginning accepted.program from)
ran m now accepted units budget steps from to over at_start none is =
    is
    ∙ ap (λ (a : Checked). after_steps a.program units budget steps (course m from)) over
    ∙ ap (after_steps accepted.program units budget steps) (opened m accepted.program from at_start none)

pub takes_from_start : (m : MachineView) (accepted : Checked) (units budget steps : ℕ) (from : Predictor) → m.accepted ≡ accepted → state m ≡ opening accepted.program → m.history ≡ [] → Takes m.accepted.program units budget (course m from) steps → Takes accepted.program units budget (beginning accepted.program from) steps
takes_from_start m accepted units budget steps from over at_start none takes =
    let P : Checked → Type 0 = λ a. Takes a.program units budget (course m from) steps in
    let Q : Course → Type 0 = λ c. Takes accepted.program units budget c steps in
    subst Q (opened m accepted.program from at_start none) (subst P over takes)

-- what follows of a call's answer

pub on_ok : {P Q : Type 0} (r : Result (Unit {0}) Refused) → (P → Q) → OnOk r P → OnOk r Q
on_ok (Ok x) f h = f h
on_ok (Err why) f h = h

-- an event that is done is one more

pub one_more : (p : Listing) (old new : MachineView) (predictor : Predictor) (e : Option Event) → IsSome e → course new predictor ≡ with_event p (course old predictor) e → length new.history ≡ length old.history + 1
one_more p old new predictor None some is = absurd (cc)
one_more p old new predictor (Some e) some is = ap (λ (c : Course). length c.events) is ∙ length-append old.history (e ∷ [])

is_running_is : (o : Standing) → is_running o ≡ true → o ≡ Running
is_running_is Running e = refl
is_running_is Halted e = absurd (true≢false (sym e))
is_running_is (Trapped trap) e = absurd (true≢false (sym e))
is_running_is (Unlisted at) e = absurd (true≢false (sym e))

pub runs_on : (budget : ℕ) (s : State) (n : ℕ) → goes_on budget s n ≡ true → s.outcome ≡ Running
runs_on budget s n e = is_running_is s.outcome (and_parts (is_running s.outcome) (nat_lt n budget) e).0

-- the turn of a position after the head

either_false : (b : Bool) (c d : Course) → b ≡ false → cond b c d ≡ d
either_false true c d e = absurd (true≢false e)
either_false false c d e = refl

either_true : (b : Bool) (c d : Course) → b ≡ true → cond b c d ≡ c
either_true true c d e = refl
either_true false c d e = absurd (true≢false (sym e))

pub work_turn : (p : Listing) (units k : ℕ) (c : Course) → 0 < k → nat_lt k (length c.state.queue) ≡ true → turn_of p units k c ≡ with_event p c (first_allowed p units c.state (tries k))
work_turn p units zero c behind there = absurd (omega arith)
work_turn p units (suc k) c behind there = either_true (nat_lt (suc k) (length c.state.queue)) _ _ there

pub free_turn : (p : Listing) (units k : ℕ) (c : Course) → 0 < k → nat_lt k (length c.state.queue) ≡ false → nat_lt (k - 1) (length c.state.queue) ≡ true → turn_of p units k c ≡ with_task p c
free_turn p units zero c behind not_there there = absurd (omega arith)
free_turn p units (suc k) c behind not_there there =
    let one : suc k - 1 ≡ k = omega arith in
    either_false (nat_lt (suc k) (length c.state.queue)) _ _ not_there
    ∙ either_true (nat_lt k (length c.state.queue)) _ c (ap (λ (n : ℕ). nat_lt n (length c.state.queue)) (sym one) ∙ there)

pub no_turn : (p : Listing) (units k : ℕ) (c : Course) → 0 < k → nat_lt k (length c.state.queue) ≡ false → nat_lt (k - 1) (length c.state.queue) ≡ false → turn_of p units k c ≡ c
no_turn p units zero c behind not_there none_before = absurd (omega arith)
no_turn p units (suc k) c behind not_there none_before =
    let one : suc k - 1 ≡ k = omega arith in
    either_false (nat_lt (suc k) (length c.state.queue)) _ _ not_there
    ∙ either_false (nat_lt k (length c.state.queue)) _ c (ap (λ (n : ℕ). nat_lt n (length c.state.queue)) (sym one) ∙ none_before)

pub on_turn : (p : Listing) (units budget k : ℕ) (c : Course) → goes_on budget c.state (length c.events) ≡ true → turn p units budget k c ≡ turn_of p units k c
on_turn p units budget k c on = either_true (goes_on budget c.state (length c.events)) _ c on

abbrev pub goes : ℕ → Course → Bool
goes budget c = goes_on budget c.state (length c.events)

-- A turn has at most one event.

pub record HasOne (p : Listing) (c d : Course) : Type 0 where
  pub event : Option Event
  pub predictor : Predictor
  pub is : d ≡ with_event p (record c { predictor = predictor }) event

module _ (p : Listing) where
  along : (c d e : Course) → d ≡ e → HasOne p c d → HasOne p c e
  along c d e same h = subst (HasOne p c) same h

  at_work : (units k : ℕ) (c : Course) → HasOne p c (with_event p c (first_allowed p units c.state (tries k)))
  at_work units k c = record { event = first_allowed p units c.state (tries k); predictor = c.predictor; is = refl }

  of_targets : (c : Course) (targets : List ℕ) → HasOne p c (with_targets p c targets)
  of_targets c [] = record { event = choice_of p c.state 0; predictor = c.predictor; is = refl }
  of_targets c (t ∷ ts) = record { event = choice_of p c.state (answer_for c.predictor (t ∷ ts)); predictor = asked c.predictor; is = refl }

  behind_head : (units k : ℕ) (c : Course) → HasOne p c (turn_of p units (suc k) c)
  behind_head units k c =
      let some : 0 < suc k = omega arith in
      let one : suc k - 1 ≡ k = omega arith in
      let before : nat_lt (suc k - 1) (length c.state.queue) ≡ nat_lt k (length c.state.queue) = ap (λ (n : ℕ). nat_lt n (length c.state.queue)) one in
      elim (cases_Bool (nat_lt (suc k) (length c.state.queue))) [
        | inl there ↦ along c _ _ (sym (work_turn p units (suc k) c some there)) (at_work units (suc k) c)
        | inr beyond ↦ elim (cases_Bool (nat_lt k (length c.state.queue))) [
          | inl free ↦ along c _ _ (sym (free_turn p units (suc k) c some beyond (before ∙ free))) (of_targets c (choices_of p c.state))
          | inr none ↦ along c _ _ (sym (no_turn p units (suc k) c some beyond (before ∙ none))) (record { event = None; predictor = c.predictor; is = refl })
        ]
      ]

  pub of_turn : (units k : ℕ) (c : Course) → HasOne p c (turn_of p units k c)
  of_turn units zero c = record { event = head_event p c.state; predictor = c.predictor; is = refl }
  of_turn units (suc k) c = behind_head units k c

-- A run and a later one: the events grow, not beyond the budget, and where the later one is over they have
-- grown.

pub record Grows (budget : ℕ) (c d : Course) : Type 0 where
  pub longer : length c.events ≤ length d.events
  pub within : length c.events ≤ budget → length d.events ≤ budget
  pub ended : goes budget c ≡ true → goes budget d ≡ false → length c.events < length d.events

pub grows_not : (budget : ℕ) (c : Course) → Grows budget c c
grows_not budget c = record { longer = omega arith; within = λ h. h; ended = λ on off. absurd (true≢false (sym on ∙ off)) }

pub grows_on : (budget : ℕ) (c d e : Course) → Grows budget c d → Grows budget d e → Grows budget c e
grows_on budget c d e one two = record {
  longer = (let x : length c.events ≤ length d.events = one.longer in let y : length d.events ≤ length e.events = two.longer in omega arith);
  within = λ h. two.within (one.within h);
  ended = λ on off. elim (cases_Bool (goes budget d)) [
    | inl goes_there ↦ (let x : length c.events ≤ length d.events = one.longer in let y : length d.events < length e.events = two.ended goes_there off in omega arith)
    | inr over ↦ (let x : length c.events < length d.events = one.ended on over in let y : length d.events ≤ length e.events = two.longer in omega arith)
  ];
}

module _ (p : Listing) (budget : ℕ) where
  by_event : (c : Course) (other : Predictor) (e : Option Event) → length c.events < budget → Grows budget c (with_event p (record c { predictor = other }) e)
  by_event c other None room = record { longer = omega arith; within = λ h. h; ended = λ on off. absurd (true≢false (sym on ∙ off)) }
  by_event c other (Some e) room =
      let more : length (c.events ++ e ∷ []) ≡ length c.events + 1 = length-append c.events (e ∷ []) in
      record { longer = omega arith; within = λ h. omega arith; ended = λ on off. omega arith }

  by_one : (c d : Course) → HasOne p c d → length c.events < budget → Grows budget c d
  by_one c d one room = subst (Grows budget c) (sym one.is) (by_event c one.predictor one.event room)

  has_room : (c : Course) → goes budget c ≡ true → length c.events < budget
  has_room c on = ltb-true (length c.events) budget (and_parts (is_running c.state.outcome) (nat_lt (length c.events) budget) on).1

  by_goes : (units k : ℕ) (c : Course) (b : Bool) → goes budget c ≡ b → Grows budget c (cond b (turn_of p units k c) c)
  by_goes units k c true on = by_one c (turn_of p units k c) (of_turn p units k c) (has_room c on)
  by_goes units k c false off = grows_not budget c

  pub by_turn : (units k : ℕ) (c : Course) → Grows budget c (turn p units budget k c)
  by_turn units k c = by_goes units k c (goes budget c) refl

  by_turns : (units n : ℕ) (c : Course) → Grows budget c (turns p units budget n c)
  by_turns units zero c = grows_not budget c
  by_turns units (suc k) c =
      grows_on budget c (turn p units budget k c) (turns p units budget k (turn p units budget k c))
      (by_turn units k c) (by_turns units k (turn p units budget k c))

  by_steps : (units n : ℕ) (c : Course) → Grows budget c (after_steps p units budget n c)
  by_steps units zero c = grows_not budget c
  by_steps units (suc n) c =
      grows_on budget c (after_steps p units budget n c) (step p units budget (after_steps p units budget n c))
      (by_steps units n c) (by_turns units units (after_steps p units budget n c))

  pub steps_within : (units n : ℕ) (predictor : Predictor) → length (after_steps p units budget n (beginning p predictor)).events ≤ budget
  steps_within units n predictor = (by_steps units n (beginning p predictor)).within (omega arith)
