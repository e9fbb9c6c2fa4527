-- The answer is Ok exactly where the step is allowed: each test of the answer is a condition of the
-- step, and back, event by event.
use Rattle.std.proofs.Common.{◌≡◌, ℕ, zero, suc, ◌+◌, ◌<◌, ◌≤◌, ◌⊎◌, inl, inr, ◌↔◌, Bool, true, false, cond, not, ◌||◌, List, [], ◌∷◌, length, drop, Option, Some, None, refl, sym, ap, ◌∙◌, subst, arith, unwrap_or, true≢false, eq-eqb, eqb-true, ltb-true, lt-ltb}
use Rattle.std.specs.Prelude.{slice_get, slice_set, nat_eq, nat_lt, is_some, is_none, Ok}
use Rattle.std.specs.List.{find, filter, range_with_len, last_or}
use Rattle.std.specs.Option.{option_or, option_and_then}
use Rattle.std.proofs.lemmas.Bool.{or_cases, or_left, or_right, not-true, cases_eq, cases_lt}
use Rattle.std.proofs.lemmas.Nat.Bits.{bit_at-zero}
use Rattle.std.proofs.Math.ListN.{get_or-eq_default}
use Rattle.std.proofs.lemmas.Option.{option_and_then_some}
use Rattle.mips_instructions.specs.Words.{has}
use Rattle.mips_instructions.specs.Instruction.{source_a, source_b, reg_a, reg_b, is_source, released, waits}
use Rattle.mips_plain.specs.Effect.{may_run_ahead}
use Rattle.task_descriptor.specs.Listing.{Listing, IsWellFormed}
use Rattle.task_descriptor.specs.WellFormed.{waits_below}
use Rattle.task_descriptor.specs.declared.descriptor.Descriptor.{Descriptor}
use Rattle.task_descriptor.specs.declared.descriptor.Marked.{Marked}
use Rattle.machine_model.specs.Machine.{Active, State, opening, no_task, creates, begins, value, pass}
use Rattle.machine_model.specs.Unit.{IsNext, put, instruction_at, exit_of, operand, lacks, after_drain}
use Rattle.machine_model.specs.Step.{Next, Does, Assigns, Execs, Transfers, Drains, Squashes, Retires, Faults, Drops, is_listed, follows, exec_leaves, next_begins, retire_leaves}
use Rattle.machine_model.specs.Replay.{ReplaysFrom, Replays}
use Rattle.machine_model.specs.Refusals.{least, unless, for_some, for_none}
use Rattle.machine_model.specs.Answer.{most_events, is_running, refusal, first_refusal, ok_unless, answer, index_of_place, exec_after, with_unit, with_queue, after, next_state, replay_from, replay}
use Rattle.machine_model.specs.declared.event.Event.{Event}
use Rattle.machine_model.specs.declared.event.Event.TheVariants.{Assign, Exec, Transfer, Drain, Squash, Retire, Fault, Drop}
use Rattle.machine_model.specs.declared.event.Refused.{Refused}
use Rattle.machine_model.specs.declared.event.Spot.{Spot}
use Rattle.machine_model.specs.declared.event.Spot.TheVariants.{Inside, Stopped}
use Rattle.machine_model.specs.declared.event.Standing.{Standing}
use Rattle.machine_model.specs.declared.event.Standing.TheVariants.{Running, Halted, Trapped, Unlisted}

-- Chains of tests: none refuses exactly where each is passed

unless_passed : (b : Bool) (x : Refused) (o : Option Refused) → unless b x o ≡ None → (b ≡ true) × (o ≡ None)
unless_passed true x o e = (refl, e)
unless_passed false x o e = absurd (cc)

unless_pass : (b : Bool) (x : Refused) (o : Option Refused) → b ≡ true → o ≡ None → unless b x o ≡ None
unless_pass true x o e f = f
unless_pass false x o e f = cc

some_passed : {A : Type 0} (o : Option A) (x : Refused) (f : A → Option Refused) → for_some o x f ≡ None → (y : A) × (o ≡ Some y) × (f y ≡ None)
some_passed None x f e = absurd (cc)
some_passed (Some y) x f e = (y, refl, e)

some_pass : {A : Type 0} (o : Option A) (x : Refused) (f : A → Option Refused) (y : A) → o ≡ Some y → f y ≡ None → for_some o x f ≡ None
some_pass {A} o x f y e g = ap (λ (z : Option A). for_some z x f) e ∙ g

none_passed : (o : Option ℕ) (x : ℕ → Refused) (b : Option Refused) → for_none o x b ≡ None → (o ≡ None) × (b ≡ None)
none_passed None x b e = (refl, e)
none_passed (Some r) x b e = absurd (cc)

none_pass : (o : Option ℕ) (x : ℕ → Refused) (b : Option Refused) → o ≡ None → b ≡ None → for_none o x b ≡ None
none_pass None x b e g = g
none_pass (Some r) x b e g = cc

or_passed : (o b : Option Refused) → option_or o b ≡ None → (o ≡ None) × (b ≡ None)
or_passed None b e = (refl, e)
or_passed (Some r) b e = absurd (cc)

or_pass : (o b : Option Refused) → o ≡ None → b ≡ None → option_or o b ≡ None
or_pass None b e g = g
or_pass (Some r) b e g = cc

-- The least register that passes a test

found_here : (b : Bool) (x r : ℕ) (rest : Option ℕ) → cond b (Some x) rest ≡ Some r → ((b ≡ true) × (x ≡ r)) ⊎ (rest ≡ Some r)
found_here true x r rest e = inl (refl, cc)
found_here false x r rest e = inr e

not_here : (b : Bool) (x : ℕ) (rest : Option ℕ) → cond b (Some x) rest ≡ None → (b ≡ false) × (rest ≡ None)
not_here true x rest e = absurd (cc)
not_here false x rest e = (refl, e)

nowhere : (b : Bool) (x : ℕ) (rest : Option ℕ) → b ≡ false → rest ≡ None → cond b (Some x) rest ≡ None
nowhere true x rest e f = absurd (true≢false e)
nowhere false x rest e f = f

either_list : (P : List ℕ → Type 0) (b : Bool) (x : ℕ) (xs : List ℕ) → (b ≡ true → P (x ∷ xs)) → (b ≡ false → P xs) → P (cond b (x ∷ xs) xs)
either_list P true x xs first rest = first refl
either_list P false x xs first rest = rest refl

module _ (set lacks : ℕ → Bool) where
  find_passes : (xs : List ℕ) (r : ℕ) → find lacks (filter set xs) ≡ Some r → (set r ≡ true) × (lacks r ≡ true)
  find_passes [] r e = absurd (cc)
  find_passes (x ∷ xs) r e =
      either_list (λ ys. find lacks ys ≡ Some r → (set r ≡ true) × (lacks r ≡ true)) (set x) x (filter set xs)
      (λ member e'. elim (found_here (lacks x) x r (find lacks (filter set xs)) e') [
        | inl g ↦ (ap set (sym g.1) ∙ member, ap lacks (sym g.1) ∙ g.0)
        | inr g ↦ find_passes xs r g
      ])
      (λ other e'. find_passes xs r e') e

  find_nothing : (n from r : ℕ) → find lacks (filter set (range_with_len from n)) ≡ None → from ≤ r → r < from + n → set r ≡ true → lacks r ≡ false
  find_nothing zero from r e low high member = absurd (omega arith)
  find_nothing (suc n) from r e low high member =
      either_list (λ ys. find lacks ys ≡ None → lacks r ≡ false) (set from) from (filter set (range_with_len (from + 1) n))
      (λ here e'.
      let nothing = not_here (lacks from) from (find lacks (filter set (range_with_len (from + 1) n))) e' in
      elim (cases_eq from r) [
        | inl same ↦ ap lacks (sym same) ∙ nothing.0
        | inr other ↦ find_nothing n (from + 1) r nothing.1 (omega arith) (omega arith) member
      ])
      (λ not_here e'. elim (cases_eq from r) [
        | inl same ↦ absurd (true≢false (sym member ∙ ap set (sym same) ∙ not_here))
        | inr other ↦ find_nothing n (from + 1) r e' (omega arith) (omega arith) member
      ]) e

  find_none : (xs : List ℕ) → ((r : ℕ) → set r ≡ true → lacks r ≡ false) → find lacks (filter set xs) ≡ None
  find_none [] all = refl
  find_none (x ∷ xs) all =
      either_list (λ ys. find lacks ys ≡ None) (set x) x (filter set xs)
      (λ member. nowhere (lacks x) x (find lacks (filter set xs)) (all x member) (find_none xs all))
      (λ other. find_none xs all)

  pub least_passes : (r : ℕ) → least set lacks ≡ Some r → (set r ≡ true) × (lacks r ≡ true)
  unfolding least
  least_passes r e = find_passes (range_with_len 0 34) r e

  pub least_nothing : least set lacks ≡ None → (r : ℕ) → r < 34 → set r ≡ true → lacks r ≡ false
  unfolding least
  least_nothing e r below member = find_nothing 34 0 r e (omega arith) (omega arith) member

  pub least_none : ((r : ℕ) → set r ≡ true → lacks r ≡ false) → least set lacks ≡ None
  unfolding least
  least_none all = find_none (range_with_len 0 34) all

-- Words that are looked up

some_is : (o : Option ℕ) → is_none o ≡ false → o ≡ Some (unwrap_or o 0)
some_is (Some w) e = refl
some_is None e = absurd (cc)

pub none_is : {A : Type 0} (o : Option A) → is_none o ≡ true → o ≡ None
none_is None e = refl
none_is (Some w) e = absurd (cc)

is_some_some : (o : Option ℕ) → is_some o ≡ true → o ≡ Some (unwrap_or o 0)
is_some_some (Some w) e = refl
is_some_some None e = absurd (cc)

some_not_none : (o : Option ℕ) → is_some o ≡ true → is_none o ≡ false
some_not_none (Some w) e = refl
some_not_none None e = absurd (cc)

pub not_none : (o : Option ℕ) → is_none o ≡ false → is_some o ≡ true
not_none (Some w) e = refl
not_none None e = absurd (cc)

-- what an instruction waits for is its operands' registers and what it releases

source_waits : (u : Active) (o : Option ℕ) → ((r : ℕ) → is_source o r ≡ true → value u r ≡ Some (operand u r)) → value u (unwrap_or o 0) ≡ Some (operand u (unwrap_or o 0))
source_waits u None h = refl
source_waits u (Some r) h = h r (eq-eqb r r refl)

source_is : (u : Active) (o : Option ℕ) (w : ℕ) → value u (unwrap_or o 0) ≡ Some w → (r : ℕ) → is_source o r ≡ true → is_some (value u r) ≡ true
source_is u None w e r s = absurd (true≢false (sym s))
source_is u (Some source) w e r s = ap (λ (x : ℕ). is_some (value u x)) (sym (eqb-true source r s)) ∙ ap is_some e

instruction_inside : (p : Listing) (place : Spot) (m : Marked) → instruction_at p place ≡ Some m → (index : ℕ) × (place ≡ Inside index) × (slice_get p.code index ≡ Some m)
instruction_inside p (Inside index) m e = (index, refl, e)
instruction_inside p (Stopped at) m e = absurd (cc)

exit_stopped : (place : Spot) (at : ℕ) → exit_of place ≡ Some at → place ≡ Stopped at
exit_stopped (Inside index) at e = absurd (cc)
exit_stopped (Stopped x) at e = cc

running_is : (s : Standing) → is_running s ≡ true → s ≡ Running
running_is Running e = refl
running_is Halted e = absurd (cc)
running_is (Trapped trap) e = absurd (cc)
running_is (Unlisted at) e = absurd (cc)

queue_from : (us : List Active) (u : Active) → slice_get us 0 ≡ Some u → us ≡ u ∷ drop 1 us
queue_from [] u e = absurd (cc)
queue_from (x ∷ us) u e = (let same : x ≡ u = cc in ap (λ (y : Active). y ∷ us) same)

head_from : (us : List Active) (u : Active) (rest : List Active) → us ≡ u ∷ rest → slice_get us 0 ≡ Some u
head_from us u rest e = ap (λ (x : List Active). slice_get x 0) e

-- a create mask has registers alone, also where there is no task
pub creates_alone : (p : Listing) → IsWellFormed p → (t r : ℕ) → creates p t r ≡ true → r < 34
creates_alone p formed t r created =
    elim (cases_lt t (length p.tasks)) [
      | inl within ↦ formed.in_range.tasks t no_task within r created
      | inr beyond ↦
          let has_none : has 0 r ≡ true = subst (λ (d : Descriptor). has d.create r ≡ true) (get_or-eq_default p.tasks no_task beyond) created in
          absurd (true≢false (sym has_none ∙ ap (λ (bit : ℕ). nat_eq bit 1) (bit_at-zero r)))
    ]

-- From the answer to the step

module _ (p : Listing) (formed : IsWellFormed p) (units : ℕ) (s : State) where
  assign_may : (t : ℕ) → refusal p units s (Assign t) ≡ None → Assigns p units s t (after p s (Assign t))
  assign_may t e =
      let one = unless_passed (nat_lt (length s.queue) units) _ _ e in
      let two = unless_passed (nat_lt t (length p.tasks)) _ _ one.1 in
      let three = unless_passed (follows p s.next t (last_or None s.queue)) _ _ two.1 in
      record {
        is_task = ltb-true t (length p.tasks) two.0;
        is_free = ltb-true (length s.queue) units one.0;
        may_follow = three.0;
        is = refl;
      }

  exec_may : (k : ℕ) → refusal p units s (Exec k) ≡ None → Execs p s k (after p s (Exec k))
  exec_may k e =
      let one = some_passed (slice_get s.queue k) _ _ e in
      let u : Active = one.0 in
      let two = some_passed (instruction_at p u.place) _ _ one.2 in
      let m : Marked = two.0 in
      let place = instruction_inside p u.place m two.1 in
      let three = none_passed (lacks u m.op) _ _ two.2 in
      let four = unless_passed (nat_eq k 0 || may_run_ahead m.op (operand u (reg_a m.op))) _ _ three.1 in
      let has : (r : ℕ) → waits m.op r ≡ true → value u r ≡ Some (operand u r) = λ r w.
      some_is (value u r) (least_nothing (waits m.op) (λ x. is_none (value u x)) three.0 r (waits_below p formed place.0 m place.2 r w) w) in
      record {
        unit = u;
        is_unit = one.1;
        index = place.0;
        at = m;
        a = operand u (reg_a m.op);
        b = operand u (reg_b m.op);
        next = record {
          is_inside = place.1;
          is_there = place.2;
          has_a = source_waits u (source_a m.op) (λ r w. has r (or_left _ _ (or_left _ _ w)));
          has_b = source_waits u (source_b m.op) (λ r w. has r (or_left _ _ (or_right _ _ w)));
          has_released = λ r w. ap is_some (has r (or_right _ _ w));
        };
        may = elim (or_cases (nat_eq k 0) (may_run_ahead m.op (operand u (reg_a m.op))) four.0) [
          | inl z ↦ inl (eqb-true k 0 z)
          | inr g ↦ inr g
        ];
        is = ap (λ (o : Option Active). with_unit s o (λ v. exec_after p s k v (instruction_at p v.place))) one.1
            ∙ ap (exec_after p s k u) two.1
            ∙ ap (λ (x : Spot). exec_leaves p s k u m (index_of_place x) (operand u (reg_a m.op)) (operand u (reg_b m.op))) place.1;
      }

  transfer_may : (k r : ℕ) → refusal p units s (Transfer k r) ≡ None → Transfers p s k r (after p s (Transfer k r))
  transfer_may zero r e = absurd (cc)
  transfer_may (suc k) r e =
      let one = some_passed (slice_get s.queue (suc k)) _ _ e in
      let u : Active = one.0 in
      let two = unless_passed (is_none (u.arrived r)) _ _ one.2 in
      let three = unless_passed (is_some (option_and_then (λ giver. pass p giver r) (slice_get s.queue k))) _ _ two.1 in
      let word : ℕ = unwrap_or (option_and_then (λ giver. pass p giver r) (slice_get s.queue k)) 0 in
      let there : option_and_then (λ giver. pass p giver r) (slice_get s.queue k) ≡ Some word = is_some_some _ three.0 in
      option_and_then_some {P = Transfers p s (suc k) r (after p s (Transfer (suc k) r))} (λ giver. pass p giver r) (slice_get s.queue k) word there (λ giver is_giver passes. record {
        ahead = k;
        is_ahead = refl;
        giver = giver;
        is_giver = is_giver;
        unit = u;
        is_unit = one.1;
        is_missing = none_is (u.arrived r) two.0;
        word = word;
        has_word = passes;
        is = ap (λ (o : Option Active). with_unit s o (λ v. with_queue s (slice_set s.queue (suc k) (record v { arrived = put r word v.arrived })))) one.1;
      })

  drain_may : (k r : ℕ) → refusal p units s (Drain k r) ≡ None → Drains p s k r (after p s (Drain k r))
  drain_may k r e =
      let one = some_passed (slice_get s.queue k) _ _ e in
      let u : Active = one.0 in
      let two = unless_passed (creates p u.task r) _ _ one.2 in
      let three = some_passed (exit_of u.place) _ _ two.1 in
      let four = unless_passed (is_none (u.sent r)) _ _ three.2 in
      let five = unless_passed (is_some (value u r)) _ _ four.1 in
      record {
        unit = u;
        is_unit = one.1;
        after = after_drain u r (operand u r);
        sends = record {
          is_created = two.0;
          exit = three.0;
          has_stopped = exit_stopped u.place three.0 three.1;
          is_unsent = none_is (u.sent r) four.0;
          word = operand u r;
          has_word = is_some_some (value u r) five.0;
          is = refl;
        };
        is = ap (λ (o : Option Active). with_unit s o (λ v. with_queue s (slice_set s.queue k (after_drain v r (operand v r))))) one.1;
      }

  squash_may : (k : ℕ) → refusal p units s (Squash k) ≡ None → Squashes p s k (after p s (Squash k))
  squash_may k e =
      let one = some_passed (slice_get s.queue (suc k)) _ _ e in
      let after_it : Active = one.0 in
      let two = some_passed (option_and_then (λ u. exit_of u.place) (slice_get s.queue k)) _ _ one.2 in
      let three = unless_passed (not (nat_eq (begins p after_it.task) two.0)) _ _ two.2 in
      option_and_then_some {P = Squashes p s k (after p s (Squash k))} (λ (u : Active). exit_of u.place) (slice_get s.queue k) two.0 two.1 (λ u is_unit stops. record {
        unit = u;
        is_unit = is_unit;
        exit = two.0;
        is_stopped = exit_stopped u.place two.0 stops;
        after = after_it;
        is_after = one.1;
        is_elsewhere = not-true _ three.0;
        is = refl;
      })

  retire_may : refusal p units s Retire ≡ None → Retires p s (after p s Retire)
  retire_may e =
      let one = some_passed (slice_get s.queue 0) _ _ e in
      let u : Active = one.0 in
      let two = some_passed (exit_of u.place) _ _ one.2 in
      let three = none_passed (least (creates p u.task) (λ r. is_none (u.sent r))) _ _ two.2 in
      let four = unless_passed (next_begins p (drop 1 s.queue) two.0) _ _ three.1 in
      let five = unless_passed (is_listed p u.task two.0) _ _ four.1 in
      record {
        head = u;
        rest = drop 1 s.queue;
        is_queue = queue_from s.queue u one.1;
        exit = two.0;
        is_stopped = exit_stopped u.place two.0 two.1;
        is_listed = five.0;
        all_sent = λ r created. not_none (u.sent r) (least_nothing (creates p u.task) (λ x. is_none (u.sent x)) three.0 r (creates_alone p formed u.task r created) created);
        next_begins = four.0;
        is = ap (λ (o : Option Active). with_unit s o (λ v. retire_leaves p s v (drop 1 s.queue) (unwrap_or (exit_of v.place) 0))) one.1
            ∙ ap (λ (o : Option ℕ). retire_leaves p s u (drop 1 s.queue) (unwrap_or o 0)) two.1;
      }

  fault_may : refusal p units s Fault ≡ None → Faults p s (after p s Fault)
  fault_may e =
      let one = some_passed (slice_get s.queue 0) _ _ e in
      let u : Active = one.0 in
      let two = some_passed (exit_of u.place) _ _ one.2 in
      let three = unless_passed (not (is_listed p u.task two.0)) _ _ two.2 in
      record {
        head = u;
        is_head = one.1;
        exit = two.0;
        is_stopped = exit_stopped u.place two.0 two.1;
        is_unlisted = not-true _ three.0;
        is = ap (λ (o : Option Active). with_unit s o (λ v. record s { outcome = Unlisted (unwrap_or (exit_of v.place) 0) })) one.1
            ∙ ap (λ (o : Option ℕ). record s { outcome = Unlisted (unwrap_or o 0) }) two.1;
      }

  drop_may : (k : ℕ) → refusal p units s (Drop k) ≡ None → Drops s k (after p s (Drop k))
  drop_may k e =
      let one = some_passed (slice_get s.queue k) _ _ e in
      let two = unless_passed (nat_lt 0 k) _ _ one.2 in
      record { unit = one.0; is_unit = one.1; is_behind = ltb-true 0 k two.0; is = refl }

  does_may : (e : Event) → refusal p units s e ≡ None → Does p units s e (after p s e)
  does_may (Assign t) e = assign_may t e
  does_may (Exec k) e = exec_may k e
  does_may (Transfer k r) e = transfer_may k r e
  does_may (Drain k r) e = drain_may k r e
  does_may (Squash k) e = squash_may k e
  does_may Retire e = retire_may e
  does_may Fault e = fault_may e
  does_may (Drop k) e = drop_may k e

-- From the step to the answer, and to what it leaves

module _ (p : Listing) (units : ℕ) (s s' : State) where
  assign_is : (t : ℕ) → Assigns p units s t s' → (refusal p units s (Assign t) ≡ None) × (s' ≡ after p s (Assign t))
  assign_is t d = (
    unless_pass (nat_lt (length s.queue) units) _ _ (lt-ltb (length s.queue) units d.is_free)
        (unless_pass (nat_lt t (length p.tasks)) _ _ (lt-ltb t (length p.tasks) d.is_task)
        (unless_pass (follows p s.next t (last_or None s.queue)) _ _ d.may_follow refl)),
    d.is,
  )

  -- no register that the instruction waits for lacks a value
  nothing_waits : (u : Active) (i : ℕ) (m : Marked) (a b : ℕ) → IsNext p u i m a b → (r : ℕ) → waits m.op r ≡ true → is_none (value u r) ≡ false
  nothing_waits u i m a b next r w =
      some_not_none (value u r)
      (elim (or_cases (is_source (source_a m.op) r || is_source (source_b m.op) r) (released m.op r) w) [
        | inl source ↦ elim (or_cases (is_source (source_a m.op) r) (is_source (source_b m.op) r) source) [
          | inl first ↦ source_is u (source_a m.op) a next.has_a r first
          | inr second ↦ source_is u (source_b m.op) b next.has_b r second
        ]
        | inr named ↦ next.has_released r named
      ])

  ahead_or_head : (k : ℕ) (m : Marked) (a : ℕ) → (k ≡ 0) ⊎ (may_run_ahead m.op a ≡ true) → (nat_eq k 0 || may_run_ahead m.op a) ≡ true
  ahead_or_head k m a (inl zero_is) = or_left _ _ (eq-eqb k 0 zero_is)
  ahead_or_head k m a (inr ahead) = or_right _ _ ahead

  exec_is : (k : ℕ) → Execs p s k s' → (refusal p units s (Exec k) ≡ None) × (s' ≡ after p s (Exec k))
  exec_is k d =
      let u : Active = d.unit in
      let m : Marked = d.at in
      let there : instruction_at p u.place ≡ Some m = ap (instruction_at p) d.next.is_inside ∙ d.next.is_there in
      let first : operand u (reg_a m.op) ≡ d.a = ap (λ (o : Option ℕ). unwrap_or o 0) d.next.has_a in
      let second : operand u (reg_b m.op) ≡ d.b = ap (λ (o : Option ℕ). unwrap_or o 0) d.next.has_b in (
        some_pass (slice_get s.queue k) _ _ u d.is_unit
            (some_pass (instruction_at p u.place) _ _ m there
            (none_pass (lacks u m.op) _ _
            (least_none (waits m.op) (λ r. is_none (value u r)) (nothing_waits u d.index m d.a d.b d.next))
            (unless_pass (nat_eq k 0 || may_run_ahead m.op (operand u (reg_a m.op))) _ _
            (ap (λ (x : ℕ). nat_eq k 0 || may_run_ahead m.op x) first ∙ ahead_or_head k m d.a d.may) refl))),
        d.is
            ∙ ap (exec_leaves p s k u m d.index d.a) (sym second)
            ∙ ap (λ (x : ℕ). exec_leaves p s k u m d.index x (operand u (reg_b m.op))) (sym first)
            ∙ ap (λ (x : Spot). exec_leaves p s k u m (index_of_place x) (operand u (reg_a m.op)) (operand u (reg_b m.op))) (sym d.next.is_inside)
            ∙ ap (exec_after p s k u) (sym there)
            ∙ ap (λ (o : Option Active). with_unit s o (λ v. exec_after p s k v (instruction_at p v.place))) (sym d.is_unit),
      )

  transfer_is : (k r : ℕ) → Transfers p s k r s' → (refusal p units s (Transfer k r) ≡ None) × (s' ≡ after p s (Transfer k r))
  transfer_is zero r d = absurd (let e : 0 ≡ suc d.ahead = d.is_ahead in omega arith)
  transfer_is (suc k) r d =
      let same : d.ahead ≡ k = (let e : suc k ≡ suc d.ahead = d.is_ahead in omega arith) in
      let giver : slice_get s.queue k ≡ Some d.giver = ap (slice_get s.queue) (sym same) ∙ d.is_giver in
      let passes : option_and_then (λ x. pass p x r) (slice_get s.queue k) ≡ Some d.word = ap (option_and_then (λ (x : Active). pass p x r)) giver ∙ d.has_word in (
        some_pass (slice_get s.queue (suc k)) _ _ d.unit d.is_unit
            (unless_pass (is_none (d.unit.arrived r)) _ _ (ap is_none d.is_missing)
            (unless_pass (is_some (option_and_then (λ x. pass p x r) (slice_get s.queue k))) _ _ (ap is_some passes) refl)),
        d.is
            ∙ ap (λ (o : Option ℕ). with_queue s (slice_set s.queue (suc k) (record (d.unit) { arrived = put r (unwrap_or o 0) d.unit.arrived }))) (sym passes)
            ∙ ap (λ (o : Option Active). with_unit s o (λ v. with_queue s (slice_set s.queue (suc k) (record v { arrived = put r (unwrap_or (option_and_then (λ x. pass p x r) (slice_get s.queue k)) 0) v.arrived })))) (sym d.is_unit),
      )

  drain_is : (k r : ℕ) → Drains p s k r s' → (refusal p units s (Drain k r) ≡ None) × (s' ≡ after p s (Drain k r))
  drain_is k r d =
      let one = d.sends in (
        some_pass (slice_get s.queue k) _ _ d.unit d.is_unit
            (unless_pass (creates p d.unit.task r) _ _ one.is_created
            (some_pass (exit_of d.unit.place) _ _ one.exit (ap exit_of one.has_stopped)
            (unless_pass (is_none (d.unit.sent r)) _ _ (ap is_none one.is_unsent)
            (unless_pass (is_some (value d.unit r)) _ _ (ap is_some one.has_word) refl)))),
        d.is
            ∙ ap (λ (v : Active). with_queue s (slice_set s.queue k v)) one.is
            ∙ ap (λ (o : Option ℕ). with_queue s (slice_set s.queue k (after_drain d.unit r (unwrap_or o 0)))) (sym one.has_word)
            ∙ ap (λ (o : Option Active). with_unit s o (λ v. with_queue s (slice_set s.queue k (after_drain v r (operand v r))))) (sym d.is_unit),
      )

  squash_is : (k : ℕ) → Squashes p s k s' → (refusal p units s (Squash k) ≡ None) × (s' ≡ after p s (Squash k))
  squash_is k d = (
    some_pass (slice_get s.queue (suc k)) _ _ d.after d.is_after
        (some_pass (option_and_then (λ u. exit_of u.place) (slice_get s.queue k)) _ _ d.exit
        (ap (option_and_then (λ (u : Active). exit_of u.place)) d.is_unit ∙ ap exit_of d.is_stopped)
        (unless_pass (not (nat_eq (begins p d.after.task) d.exit)) _ _ (ap not d.is_elsewhere) refl)),
    d.is,
  )

  retire_is : Retires p s s' → (refusal p units s Retire ≡ None) × (s' ≡ after p s Retire)
  retire_is d =
      let there : slice_get s.queue 0 ≡ Some d.head = head_from s.queue d.head d.rest d.is_queue in
      let rest : drop 1 s.queue ≡ d.rest = ap (λ (x : List Active). drop 1 x) d.is_queue in (
        some_pass (slice_get s.queue 0) _ _ d.head there
            (some_pass (exit_of d.head.place) _ _ d.exit (ap exit_of d.is_stopped)
            (none_pass (least (creates p d.head.task) (λ r. is_none (d.head.sent r))) _ _
            (least_none (creates p d.head.task) (λ r. is_none (d.head.sent r)) (λ r created. some_not_none (d.head.sent r) (d.all_sent r created)))
            (unless_pass (next_begins p (drop 1 s.queue) d.exit) _ _ (ap (λ (x : List Active). next_begins p x d.exit) rest ∙ d.next_begins)
            (unless_pass (is_listed p d.head.task d.exit) _ _ d.is_listed refl)))),
        d.is
            ∙ ap (λ (x : List Active). retire_leaves p s d.head x d.exit) (sym rest)
            ∙ ap (λ (o : Option ℕ). retire_leaves p s d.head (drop 1 s.queue) (unwrap_or o 0)) (sym (ap exit_of d.is_stopped))
            ∙ ap (λ (o : Option Active). with_unit s o (λ v. retire_leaves p s v (drop 1 s.queue) (unwrap_or (exit_of v.place) 0))) (sym there),
      )

  fault_is : Faults p s s' → (refusal p units s Fault ≡ None) × (s' ≡ after p s Fault)
  fault_is d = (
    some_pass (slice_get s.queue 0) _ _ d.head d.is_head
        (some_pass (exit_of d.head.place) _ _ d.exit (ap exit_of d.is_stopped)
        (unless_pass (not (is_listed p d.head.task d.exit)) _ _ (ap not d.is_unlisted) refl)),
    d.is
        ∙ ap (λ (o : Option ℕ). record s { outcome = Unlisted (unwrap_or o 0) }) (sym (ap exit_of d.is_stopped))
        ∙ ap (λ (o : Option Active). with_unit s o (λ v. record s { outcome = Unlisted (unwrap_or (exit_of v.place) 0) })) (sym d.is_head),
  )

  drop_is : (k : ℕ) → Drops s k s' → (refusal p units s (Drop k) ≡ None) × (s' ≡ after p s (Drop k))
  drop_is k d = (
    some_pass (slice_get s.queue k) _ _ d.unit d.is_unit (unless_pass (nat_lt 0 k) _ _ (lt-ltb 0 k d.is_behind) refl),
    d.is,
  )

  does_is : (e : Event) → Does p units s e s' → (refusal p units s e ≡ None) × (s' ≡ after p s e)
  does_is (Assign t) d = assign_is t d
  does_is (Exec k) d = exec_is k d
  does_is (Transfer k r) d = transfer_is k r d
  does_is (Drain k r) d = drain_is k r d
  does_is (Squash k) d = squash_is k d
  does_is Retire d = retire_is d
  does_is Fault d = fault_is d
  does_is (Drop k) d = drop_is k d

  pub next_is_after : (e : Event) → Next p units s e s' → s' ≡ after p s e
  next_is_after e next = (does_is e next.does).1

-- The laws

ok_none : (o : Option Refused) → ok_unless o ≡ Ok tt → o ≡ None
ok_none None e = refl
ok_none (Some r) e = absurd (cc)

refusal_of : (p : Listing) (units : ℕ) (s : State) (n : ℕ) (e : Event) → (first_refusal p units s n e ≡ None) ↔ ((s.outcome ≡ Running) × (refusal p units s e ≡ None) × (n < most_events))
refusal_of p units s n e = (
  λ h.
      let one = unless_passed (is_running s.outcome) _ _ h in
      let two = or_passed (refusal p units s e) _ one.1 in
      let three = unless_passed (nat_lt n most_events) _ _ two.1 in
      (running_is s.outcome one.0, two.0, ltb-true n most_events three.0),
  λ h.
      unless_pass (is_running s.outcome) _ _ (ap is_running h.0)
      (or_pass (refusal p units s e) _ h.1 (unless_pass (nat_lt n most_events) _ _ (lt-ltb n most_events h.2) refl)),
)

pub answer_is_next : (p : Listing) (units : ℕ) (s : State) (n : ℕ) (e : Event) → IsWellFormed p → (answer p units s n e ≡ Ok tt) ↔ (Next p units s e (after p s e) × (n < most_events))
answer_is_next p units s n e formed = (
  λ h.
      let passed = (refusal_of p units s n e).0 (ok_none (first_refusal p units s n e) h) in
      (record { runs = passed.0; does = does_may p formed units s e passed.1 }, passed.2),
  λ h. ap ok_unless ((refusal_of p units s n e).1 (h.0.runs, (does_is p units s (after p s e) e h.0.does).0, h.1)),
)

-- one event of the function is one step
taken : (p : Listing) (units : ℕ) (s : State) (e : Event) (o : Option Refused) (mid : State) → cond (is_none o) (Some (after p s e)) None ≡ Some mid → (o ≡ None) × (after p s e ≡ mid)
taken p units s e None mid h = (refl, cc)
taken p units s e (Some r) mid h = absurd (cc)

next_state_is : (p : Listing) (units : ℕ) (s mid : State) (e : Event) → IsWellFormed p → (next_state p units s e ≡ Some mid) ↔ Next p units s e mid
next_state_is p units s mid e formed = (
  λ h.
      let t = taken p units s e (first_refusal p units s 0 e) mid h in
      let passed = (refusal_of p units s 0 e).0 t.0 in
      subst (Next p units s e) t.1 (record { runs = passed.0; does = does_may p formed units s e passed.1 }),
  λ h.
      let is = does_is p units s mid e h.does in
      ap (λ (o : Option Refused). cond (is_none o) (Some (after p s e)) None) ((refusal_of p units s 0 e).1 (h.runs, is.0, lt_of_zero))
      ∙ ap Some (sym is.1),
)
  where
    lt_of_zero : 0 < most_events
    lt_of_zero = omega arith

replay_from_is : (p : Listing) (units : ℕ) (s s' : State) (es : List Event) → IsWellFormed p → (replay_from p units s es ≡ Some s' → ReplaysFrom p units s es s') × (ReplaysFrom p units s es s' → replay_from p units s es ≡ Some s')
replay_from_is p units s s' [] formed = (λ h. cc, λ h. ap Some (sym h))
replay_from_is p units s s' (e ∷ es) formed = (
  λ h. option_and_then_some {P = ReplaysFrom p units s (e ∷ es) s'} (λ mid. replay_from p units mid es) (next_state p units s e) s' h
      (λ mid one rest. (mid, (next_state_is p units s mid e formed).0 one, (replay_from_is p units mid s' es formed).0 rest)),
  λ h. ap (option_and_then (λ (mid : State). replay_from p units mid es)) ((next_state_is p units s h.0 e formed).1 h.1)
      ∙ (replay_from_is p units h.0 s' es formed).1 h.2,
)

pub replay_is_replays : (p : Listing) (units : ℕ) (events : List Event) (s : State) → IsWellFormed p → (replay p units events ≡ Some s) ↔ Replays p units events s
replay_is_replays p units events s formed = replay_from_is p units (opening p) s events formed
