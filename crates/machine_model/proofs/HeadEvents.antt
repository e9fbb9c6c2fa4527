-- While the run goes on the head is ready for an event: it is right, so it stands at an instruction
-- and has every register; and the next address is always where a task begins.
use Rattle.std.proofs.Common.{◌≡◌, ℕ, suc, ◌+◌, ◌<◌, ◌≤◌, inl, inr, Bool, true, false, cond, not, ◌||◌, List, [], ◌∷◌, length, Option, Some, None, refl, sym, ap, ◌∙◌, subst, arith, true≢false, eq-eqb, eqb-true}
use Rattle.std.specs.Prelude.{slice_get, nat_eq, nat_lt, is_some, is_none}
use Rattle.std.specs.List.{list_any, last_or, position_or_len}
use Rattle.std.specs.Option.{option_map}
use Rattle.std.proofs.lemmas.Bool.{or_cases, or_left, or_right, cond-true, lt-ltb}
use Rattle.std.proofs.lemmas.Option.{slice_get_cases, slice_get-get_or}
use Rattle.std.proofs.lemmas.List.Quantifiers.{position-Some}
use Rattle.mips_instructions.specs.Words.{address}
use Rattle.mips_instructions.specs.Instruction.{reg_a, reg_b}
use Rattle.task_descriptor.specs.Listing.{Listing, IsWellFormed}
use Rattle.task_descriptor.specs.WellFormed.{limits, entry_below, start_is_entry}
use Rattle.task_descriptor.specs.declared.descriptor.Descriptor.{Descriptor}
use Rattle.task_graph.specs.Edges.{Path, stay, onward}
use Rattle.task_graph.specs.Soundness.{Sound, is_entry}
use Rattle.machine_model.specs.Machine.{Active, State, opening, task_at, no_task, creates, value}
use Rattle.machine_model.specs.Unit.{after_drain}
use Rattle.machine_model.specs.Step.{Next, follows, is_listed, next_begins}
use Rattle.machine_model.specs.Replay.{ReplaysFrom, Replays}
use Rattle.machine_model.specs.Refusals.{least}
use Rattle.machine_model.specs.Answer.{is_running, after}
use Rattle.machine_model.specs.Claims.{plain_of, count_c}
use Rattle.machine_model.specs.HeadEvent.{task_beginning, drain_or_retire, event_of_head, event_of_queue, head_event}
use Rattle.machine_model.specs.declared.event.Event.{Event}
use Rattle.machine_model.specs.declared.event.Event.TheVariants.{Assign, Exec, Transfer, Drain, Squash, Retire, Fault, Drop}
use Rattle.machine_model.specs.declared.event.Spot.{Spot}
use Rattle.machine_model.specs.declared.event.Spot.TheVariants.{Inside, Stopped}
use Rattle.machine_model.specs.declared.event.Standing.{Standing}
use Rattle.machine_model.specs.declared.event.Standing.TheVariants.{Running, Halted, Trapped, Unlisted}
use Rattle.machine_model.proofs.PlainRuns.{sound_at}
use Rattle.machine_model.proofs.Invariant.{UnitRight, PlaceRight}
use Rattle.machine_model.proofs.Events.{QueueRight, head_right, head_has}
use Rattle.machine_model.proofs.Headline.{InvAt, Good, step_good, opening_good}
use Rattle.machine_model.proofs.Answering.{next_is_after, creates_alone, least_passes, least_nothing, none_is, not_none}

-- A task begins at the next address

abbrev BeginsThere : Listing → ℕ → Type 0
BeginsThere p at = list_any (λ (task : Descriptor). nat_eq (address task.entry) at) p.tasks ≡ true

any_then : {X : Type 0} (f g : X → Bool) → ((x : X) → f x ≡ true → g x ≡ true) → (xs : List X) → list_any f xs ≡ true → list_any g xs ≡ true
any_then f g then_ [] e = e
any_then f g then_ (x ∷ xs) e = elim (or_cases (f x) (list_any f xs) e) [
  | inl here ↦ or_left _ _ (then_ x here)
  | inr there ↦ or_right _ _ (any_then f g then_ xs there)
]

entry_begins : (p : Listing) (j : ℕ) → is_entry p j ≡ true → BeginsThere p (address j)
entry_begins p j e =
    any_then (λ (task : Descriptor). nat_eq j task.entry) (λ (task : Descriptor). nat_eq (address task.entry) (address j))
    (λ task same. eq-eqb (address task.entry) (address j) (ap address (sym (eqb-true j task.entry same)))) p.tasks e

target_begins : (p : Listing) (at : ℕ) (targets : List ℕ) → ((j : ℕ) → list_any (nat_eq j) targets ≡ true → is_entry p j ≡ true) → list_any (λ (target : ℕ). nat_eq (address target) at) targets ≡ true → BeginsThere p at
target_begins p at [] entries e = absurd (true≢false (sym e))
target_begins p at (x ∷ xs) entries e = elim (or_cases (nat_eq (address x) at) (list_any (λ (target : ℕ). nat_eq (address target) at) xs) e) [
  | inl here ↦ subst (BeginsThere p) (eqb-true (address x) at here) (entry_begins p x (entries x (or_left _ _ (eq-eqb x x refl))))
  | inr there ↦ target_begins p at xs (λ j listed. entries j (or_right _ _ listed)) there
]

within_position : {X : Type 0} (test : X → Bool) (xs : List X) → list_any test xs ≡ true → position_or_len test xs < length xs
within_position test [] e = absurd (true≢false (sym e))
within_position test (x ∷ xs) e = here_or_behind (test x) (list_any test xs) (position_or_len test xs) (length xs) (within_position test xs) e
  where
    here_or_behind : (b c : Bool) (n m : ℕ) → (c ≡ true → n < m) → b || c ≡ true → cond (not b) (1 + n) 0 < suc m
    here_or_behind true c n m behind e = omega arith
    here_or_behind false c n m behind e = (let h : n < m = behind e in omega arith)

task_there : (p : Listing) (at : ℕ) → BeginsThere p at → (t : ℕ) × (task_beginning p at ≡ Some t)
task_there p at e =
    let test : Descriptor → Bool = λ task. nat_eq (address task.entry) at in
    (position_or_len test p.tasks, cond-true (nat_lt (position_or_len test p.tasks) (length p.tasks)) _ _ (lt-ltb _ _ (within_position test p.tasks e)))

module _ (p : Listing) (formed : IsWellFormed p) (sound : Sound p) where
  opening_begins : BeginsThere p (opening p).next
  opening_begins =
      any_then (λ (task : Descriptor). nat_eq task.entry p.start) (λ (task : Descriptor). nat_eq (address task.entry) (address p.start))
      (λ task same. eq-eqb (address task.entry) (address p.start) (ap address (eqb-true task.entry p.start same))) p.tasks (start_is_entry p formed)

  queue_head_is_task : (s : State) (c : ℕ) (head : Active) (rest : List Active) → s.queue ≡ head ∷ rest → InvAt p c s → head.task < length p.tasks
  queue_head_is_task s c head rest is inv =
      (head_right p c head rest s.next s.memory s.output (subst (λ (x : List Active). QueueRight p c x s.next s.memory s.output) is inv.queue)).is_task

  next_begins_by : (s s' : State) → s'.next ≡ s.next → BeginsThere p s.next → BeginsThere p s'.next
  next_begins_by s s' same h = subst (BeginsThere p) (sym same) h

  -- only a Retire changes the next address, to an exit that the task lists
  step_begins : (units : ℕ) (s s' : State) (e : Event) → Good p s → Next p units s e s' → BeginsThere p s.next → BeginsThere p s'.next
  step_begins units s s' (Assign t) good next h = next_begins_by s s' (ap (λ (x : State). x.next) next.does.is) h
  step_begins units s s' (Exec k) good next h = next_begins_by s s' (ap (λ (x : State). x.next) next.does.is) h
  step_begins units s s' (Transfer k r) good next h = next_begins_by s s' (ap (λ (x : State). x.next) next.does.is) h
  step_begins units s s' (Drain k r) good next h = next_begins_by s s' (ap (λ (x : State). x.next) next.does.is) h
  step_begins units s s' (Squash k) good next h = next_begins_by s s' (ap (λ (x : State). x.next) next.does.is) h
  step_begins units s s' Retire good next h =
      let d = next.does in
      let is_task : d.head.task < length p.tasks = queue_head_is_task s (count_c s) d.head d.rest d.is_queue (good.inv next.runs) in
      subst (BeginsThere p) (sym (ap (λ (x : State). x.next) d.is))
      (target_begins p d.exit (task_at p d.head.task).targets (sound_at p ((limits p formed).code) sound d.head.task is_task).targets_begin d.is_listed)
  step_begins units s s' Fault good next h = next_begins_by s s' (ap (λ (x : State). x.next) next.does.is) h
  step_begins units s s' (Drop k) good next h = next_begins_by s s' (ap (λ (x : State). x.next) next.does.is) h

  replay_begins : (units : ℕ) (es : List Event) (s s' : State) → Good p s → BeginsThere p s.next → ReplaysFrom p units s es s' → Good p s' × BeginsThere p s'.next
  replay_begins units [] s s' good h replay =
      (subst (Good p) (sym replay) good, subst (λ (x : State). BeginsThere p x.next) (sym replay) h)
  replay_begins units (e ∷ es) s s' good h replay =
      replay_begins units es replay.0 s' (step_good p ((limits p formed).code) sound units s replay.0 e good replay.1) (step_begins units s replay.0 e good replay.1 h) replay.2

  -- A reached place is an instruction

  pub reached_inside : (t i : ℕ) → t < length p.tasks → Path p (task_at p t).entry i → i < length p.code
  reached_inside t i is_task stay = entry_below p formed t (task_at p t) (slice_get-get_or p.tasks t no_task is_task)
  reached_inside t i is_task (onward {j} path over) = (sound_at p ((limits p formed).code) sound t is_task).stays_inside j i path over

  -- The event of the head is allowed

  module _ (units : ℕ) (some_unit : 0 < units) (s : State) (runs : s.outcome ≡ Running) (inv : InvAt p (count_c s) s) (begins_there : BeginsThere p s.next) where
    abbrev Allowed : Event → Type 0
    Allowed e = (s' : State) × Next p units s e s'

    abbrev HasEvent : Option Event → Type 0
    HasEvent o = (e : Event) × (o ≡ Some e) × Allowed e

    assign_allowed : s.queue ≡ [] → HasEvent (option_map Assign (task_beginning p s.next))
    assign_allowed empty =
        let found = task_there p s.next begins_there in
        let at = position-Some (λ (task : Descriptor). nat_eq (address task.entry) s.next) p.tasks found.0 no_task found.1 in (
          Assign found.0,
          ap (option_map Assign) found.1,
          (
            _,
            record {
              runs = runs;
              does = record {
                is_task = at.0;
                is_free = subst (λ (n : ℕ). n < units) (sym (ap length empty)) some_unit;
                may_follow = ap (λ (x : List Active). follows p s.next found.0 (last_or None x)) empty ∙ at.1;
                is = refl;
              };
            },
          ),
        )

    module _ (u : Active) (us : List Active) (is_queue : s.queue ≡ u ∷ us) where
      abbrev q : QueueRight p (count_c s) (u ∷ us) s.next s.memory s.output
      q = subst (λ (x : List Active). QueueRight p (count_c s) x s.next s.memory s.output) is_queue inv.queue

      abbrev h : UnitRight p false (count_c s) u
      h = head_right p (count_c s) u us s.next s.memory s.output q

      is_head : slice_get s.queue 0 ≡ Some u
      is_head = ap (λ (x : List Active). slice_get x 0) is_queue

      -- the head has every register
      has_value : (r : ℕ) → value u r ≡ Some ((plain_of p (count_c s + length u.log)).regs r)
      has_value r = head_has p (count_c s) (u ∷ us) s.next s.memory s.output q u refl r

      exec_allowed : (i : ℕ) → u.place ≡ Inside i → Allowed (Exec 0)
      exec_allowed i inside =
          let place : PlaceRight p u.task (count_c s) h.now (Inside i) = subst (PlaceRight p u.task (count_c s) h.now) inside h.place in
          let within : i < length p.code = reached_inside u.task i h.is_task place.0 in
          elim (slice_get_cases p.code i).1 [
            | inl found ↦ (
              _,
              record {
                runs = runs;
                does = record {
                  unit = u;
                  is_unit = is_head;
                  index = i;
                  at = found.0;
                  a = (plain_of p (count_c s + length u.log)).regs (reg_a found.0.op);
                  b = (plain_of p (count_c s + length u.log)).regs (reg_b found.0.op);
                  next = record {
                    is_inside = inside;
                    is_there = found.2;
                    has_a = has_value (reg_a found.0.op);
                    has_b = has_value (reg_b found.0.op);
                    has_released = λ r e. ap is_some (has_value r);
                  };
                  may = inl refl;
                  is = refl;
                };
              },
            )
            | inr past ↦ absurd (let behind : length p.code ≤ i = past.0 in omega arith)
          ]

      squash_allowed : (exit : ℕ) (vs : List Active) → us ≡ vs → u.place ≡ Stopped exit → next_begins p vs exit ≡ false → Allowed (Squash 0)
      squash_allowed exit [] is stopped e = absurd (true≢false e)
      squash_allowed exit (v ∷ vs) is stopped e = (
        _,
        record {
          runs = runs;
          does = record {
            unit = u;
            is_unit = is_head;
            exit = exit;
            is_stopped = stopped;
            after = v;
            is_after = ap (λ (x : List Active). slice_get x 1) (is_queue ∙ ap (λ (x : List Active). u ∷ x) is);
            is_elsewhere = e;
            is = refl;
          };
        },
      )

      sent_all : least (creates p u.task) (λ r. is_none (u.sent r)) ≡ None → (r : ℕ) → creates p u.task r ≡ true → is_some (u.sent r) ≡ true
      sent_all none r created = not_none (u.sent r) (least_nothing (creates p u.task) (λ x. is_none (u.sent x)) none r (creates_alone p formed u.task r created) created)

      stopped_allowed : (exit : ℕ) (listed begin : Bool) (unsent : Option ℕ) → u.place ≡ Stopped exit → is_listed p u.task exit ≡ listed → next_begins p us exit ≡ begin → least (creates p u.task) (λ r. is_none (u.sent r)) ≡ unsent → Allowed (cond (not listed) Fault (cond (not begin) (Squash 0) (drain_or_retire unsent)))
      stopped_allowed exit false begin unsent stopped l b e = (
        _,
        record {
          runs = runs;
          does = record { head = u; is_head = is_head; exit = exit; is_stopped = stopped; is_unlisted = l; is = refl };
        },
      )
      stopped_allowed exit true false unsent stopped l b e = squash_allowed exit us refl stopped b
      stopped_allowed exit true true (Some r) stopped l b e =
          let unsent = least_passes (creates p u.task) (λ x. is_none (u.sent x)) r e in (
            _,
            record {
              runs = runs;
              does = record {
                unit = u;
                is_unit = is_head;
                after = after_drain u r ((plain_of p (count_c s + length u.log)).regs r);
                sends = record {
                  is_created = unsent.0;
                  exit = exit;
                  has_stopped = stopped;
                  is_unsent = none_is (u.sent r) unsent.1;
                  word = (plain_of p (count_c s + length u.log)).regs r;
                  has_word = has_value r;
                  is = refl;
                };
                is = refl;
              };
            },
          )
      stopped_allowed exit true true None stopped l b e = (
        _,
        record {
          runs = runs;
          does = record {
            head = u;
            rest = us;
            is_queue = is_queue;
            exit = exit;
            is_stopped = stopped;
            is_listed = l;
            all_sent = sent_all e;
            next_begins = b;
            is = refl;
          };
        },
      )

      head_allowed : (place : Spot) → u.place ≡ place → Allowed (event_of_head p u us place)
      head_allowed (Inside i) inside = exec_allowed i inside
      head_allowed (Stopped exit) stopped =
          stopped_allowed exit (is_listed p u.task exit) (next_begins p us exit) (least (creates p u.task) (λ r. is_none (u.sent r))) stopped refl refl refl

    queue_allowed : (queue : List Active) → s.queue ≡ queue → HasEvent (event_of_queue p s.next queue)
    queue_allowed [] empty = assign_allowed empty
    queue_allowed (u ∷ us) is = (event_of_head p u us u.place, refl, head_allowed u us is u.place refl)

    has_event : HasEvent (head_event p s)
    has_event =
        let found = queue_allowed s.queue refl in
        (found.0, ap (λ (o : Standing). cond (is_running o) (event_of_queue p s.next s.queue) None) runs ∙ found.1, found.2)

pub never_stuck : (p : Listing) (units : ℕ) (events : List Event) (s : State) → IsWellFormed p → Sound p → 0 < units → Replays p units events s → s.outcome ≡ Running → (e : Event) × (head_event p s ≡ Some e) × Next p units s e (after p s e)
never_stuck p units events s formed sound some_unit replay runs =
    let kept = replay_begins p formed sound units events (opening p) s (opening_good p) (opening_begins p formed sound) replay in
    let found = has_event p formed sound units some_unit s runs (kept.0.inv runs) kept.1 in
    (found.0, found.1, subst (Next p units s found.0) (next_is_after p units s found.2.0 found.0 found.2.1) found.2.1)

pub ended_has_none : (p : Listing) (s : State) → (s.outcome ≡ Running → ⊥) → head_event p s ≡ None
ended_has_none p s ended = by_outcome s.outcome ended
  where
    by_outcome : (o : Standing) → (o ≡ Running → ⊥) → cond (is_running o) (event_of_queue p s.next s.queue) None ≡ None
    by_outcome Running never = absurd (never refl)
    by_outcome Halted never = refl
    by_outcome (Trapped trap) never = refl
    by_outcome (Unlisted at) never = refl
