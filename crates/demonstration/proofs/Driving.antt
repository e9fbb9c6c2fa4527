-- An event that is tried on a machine is the next of its run exactly where the machine allows it.
use Rattle.demonstration.proofs.Imports.{◌≡◌, ℕ, ◌+◌, ◌<◌, Bool, true, false, nat_lt, Option, Some, None, List, [], ◌∷◌, ◌++◌, length, take, get_or, Result, Ok, Err, option_or, refl, sym, ap, ◌∙◌, subst, arith, inl, inr, length-append, ltb-true, cond-true, is_ok, fold_more, fold-append, Listing, State, opening, unless, after, answer, is_running, most_events, ok_unless, refusal, Replays, ReplayCut, Event, Refused, OpenView, Applies, IsAnswered, answer_to, state, units_of, IsDriven, each_tried, is_allowed, state_after, tried}
use Rattle.machine_model.specs.declared.event.Refused.TheVariants as refused

-- the state after no event, and after one more

pub after_none : (p : Listing) → state_after p [] ≡ opening p
unfolding state_after
after_none p = refl

pub after_more : (p : Listing) (events : List Event) (e : Event) → state_after p (events ++ e ∷ []) ≡ after p (state_after p events) e
unfolding state_after
after_more p events e = fold-append (after p) (opening p) events (e ∷ [])

ok_answer : (m : OpenView) (e : Event) (done : Unit {0}) → IsAnswered m e (Ok done) → answer_to m e ≡ Ok done
ok_answer m e done (inl same) = sym same
ok_answer m e done (inr memory) = absurd (let never = memory.0 in cc)

err_answer : (m : OpenView) (e : Event) (why : Refused) → (why ≡ refused.OutOfMemory → ⊥) → IsAnswered m e (Err why) → answer_to m e ≡ Err why
err_answer m e why other (inl same) = sym same
err_answer m e why other (inr memory) = absurd (other (let same = memory.0 in cc))

pub now_allowed : (m : OpenView) (events : List Event) (e : Event) (done : Unit {0}) → IsDriven m events → IsAnswered m e (Ok done) → is_allowed m.program (units_of m) events e ≡ true
unfolding is_allowed
now_allowed m events e done h answered =
    (λ j. is_ok (answer m.program (units_of m) (sym h.leaves j) (sym h.counted j) e)) ∙ ap (λ (a : Result (Unit {0}) Refused). is_ok a) (ok_answer m e done answered)

pub not_allowed : (m : OpenView) (events : List Event) (e : Event) (why : Refused) → IsDriven m events → (why ≡ refused.OutOfMemory → ⊥) → IsAnswered m e (Err why) → is_allowed m.program (units_of m) events e ≡ false
unfolding is_allowed
not_allowed m events e why h other answered =
    (λ j. is_ok (answer m.program (units_of m) (sym h.leaves j) (sym h.counted j) e)) ∙ ap (λ (a : Result (Unit {0}) Refused). is_ok a) (err_answer m e why other answered)

pub now_tried : (p : Listing) (units : ℕ) (run : List Event) (e : Event) → is_allowed p units run e ≡ true → tried p units run e ≡ run ++ e ∷ []
unfolding tried
now_tried p units run e may = cond-true _ _ _ may

-- the machine stays one of its events

room_if : (runs : Bool) (refusal : Option Refused) (room : Bool) (done : Unit {0}) → ok_unless (unless runs refused.Ended (option_or refusal (unless room refused.Full None))) ≡ Ok done → room ≡ true
room_if true None true done e = refl
room_if true None false done e = absurd (cc)
room_if true (Some why) room done e = absurd (cc)
room_if false refusal room done e = absurd (cc)

pub stays_driven : ReplayCut → (m m' : OpenView) (events events' : List Event) (e : Event) (done : Unit {0}) → IsDriven m events → IsAnswered m e (Ok done) → Applies m e m' → m'.program ≡ m.program → units_of m' ≡ units_of m → events' ≡ events ++ e ∷ [] → IsDriven m' events'
stays_driven cut m m' events events' e done h answered applies program units pushed =
    let room : m.count < most_events =
    ltb-true m.count most_events (room_if (is_running (state m).outcome) (refusal m.program (units_of m) (state m) e) (nat_lt m.count most_events) done (ok_answer m e done answered)) in
    let counted : m.count ≡ length events = h.counted in
    let longer : length events' ≡ length events + 1 = ap length pushed ∙ length-append events (e ∷ []) in
    let more : m'.count ≡ m.count + 1 = applies.count in
    let joined : Replays m.program (units_of m) (events ++ e ∷ []) (state m') =
    (cut m.program (units_of m) (opening m.program) (state m') events (e ∷ [])).1
    (state m, subst (Replays m.program (units_of m) events) (sym h.leaves) h.replays, (state m', applies.next, refl)) in
    let leaves : state m' ≡ state_after m'.program events' =
    applies.leaves ∙ ap (λ (s : State). after m.program s e) h.leaves ∙ sym (after_more m.program events e)
    ∙ (λ j. state_after (sym program j) (sym pushed j)) in
    record {
      counted = omega arith;
      room = omega arith;
      leaves = leaves;
      replays =
          subst (Replays m'.program (units_of m') events') leaves
          (subst (λ (p : Listing). Replays p (units_of m') events' (state m')) (sym program)
          (subst (λ (n : ℕ). Replays m.program n events' (state m')) (sym units)
          (subst (λ (es : List Event). Replays m.program (units_of m) es (state m')) (sym pushed) joined)));
    }

pub opened_driven : (m : OpenView) (events : List Event) (p : Listing) → m.program ≡ p → m.count ≡ 0 → state m ≡ opening p → events ≡ [] → IsDriven m events
opened_driven m events p program count opened none =
    subst (IsDriven m) (sym none) (record {
      counted = count;
      room = omega arith;
      leaves = opened ∙ ap opening (sym program) ∙ sym (after_none m.program);
      replays = after_none m.program;
    })

-- a list of events is tried one by one
pub tried_more : (p : Listing) (units : ℕ) (run events : List Event) (index : ℕ) (e : Event) → index < length events → e ≡ get_or events index e → each_tried p units run (take (index + 1) events) ≡ tried p units (each_tried p units run (take index events)) e
tried_more p units run events index e below is =
    fold_more (tried p units) run events index e below ∙ ap (tried p units (each_tried p units run (take index events))) (sym is)
