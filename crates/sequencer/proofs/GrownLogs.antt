-- A unit's log only grows: of the units that were there before an event, each that is there after it has the log
-- that it had, with what it has read since. A unit that is assigned has a new serial number.
use Rattle.std.proofs.Common.{◌≡◌, ℕ, zero, suc, ◌+◌, ◌<◌, ◌≤◌, List, [], ◌∷◌, ◌++◌, length, take, Some, inl, inr, refl, sym, ap, ◌∙◌, subst, arith, append_assoc, length-append}
use Rattle.std.proofs.lemmas.List.{append-nil}
use Rattle.std.specs.Prelude.{◌⊎◌, Option, slice_get, slice_set, unwrap_or}
use Rattle.mips_instructions.specs.Words.{address}
use Rattle.mips_plain.specs.Effect.{outcome_after}
use Rattle.mips_plain.specs.declared.outcome.Read.{Read}
use Rattle.task_descriptor.specs.Listing.{Listing}
use Rattle.machine_model.specs.Machine.{Active, State, opening}
use Rattle.machine_model.specs.Unit.{after_exec}
use Rattle.machine_model.specs.Step.{Next, started, filled, handed_over}
use Rattle.machine_model.specs.Replay.{ReplaysFrom, Replays}
use Rattle.machine_model.specs.Answer.{after}
use Rattle.machine_model.specs.Laws.{ReplayCut, NextIsAfter}
use Rattle.machine_model.specs.declared.event.Event.{Event}
use Rattle.machine_model.specs.declared.event.Event.TheVariants.{Assign, Exec, Transfer, Drain, Squash, Retire, Fault, Drop}
use Rattle.sequencer.specs.Logs.{SameSerial, LogsGrow}
use Rattle.sequencer.proofs.Serials.{exec_serial, serial_below, serials_distinct}

-- a unit that one of these was before it read more
record From (us : List Active) (v : Active) : Type 0 where
  position : ℕ
  unit : Active
  is_unit : slice_get us position ≡ Some unit
  same : unit.serial ≡ v.serial
  reads : List Read
  log : v.log ≡ unit.log ++ reads

-- each of the later units with an old serial number was one of these
abbrev Grown : (us vs : List Active) → (assigns : ℕ) → Type 0
Grown us vs assigns = (k : ℕ) (v : Active) → slice_get vs k ≡ Some v → v.serial < assigns → From us v

as_it_was : (us : List Active) (k : ℕ) (v : Active) → slice_get us k ≡ Some v → From us v
as_it_was us k v at = record { position = k; unit = v; is_unit = at; same = refl; reads = []; log = sym (append-nil v.log) }

-- where the units of a changed queue come from

at_set : (us : List Active) (k j : ℕ) (u v w : Active) → slice_get us k ≡ Some u → slice_get (slice_set us k v) j ≡ Some w → (w ≡ v) ⊎ (slice_get us j ≡ Some w)
at_set [] k j u v w at there = absurd (cc)
at_set (x ∷ us) zero zero u v w at there = inl (cc)
at_set (x ∷ us) zero (suc j) u v w at there = inr there
at_set (x ∷ us) (suc k) zero u v w at there = inr there
at_set (x ∷ us) (suc k) (suc j) u v w at there = at_set us k j u v w at there

at_taken : (us : List Active) (n j : ℕ) (w : Active) → slice_get (take n us) j ≡ Some w → slice_get us j ≡ Some w
at_taken [] zero j w there = there
at_taken [] (suc n) j w there = there
at_taken (x ∷ us) zero j w there = absurd (cc)
at_taken (x ∷ us) (suc n) zero w there = there
at_taken (x ∷ us) (suc n) (suc j) w there = at_taken us n j w there

at_pushed : (us : List Active) (j : ℕ) (v w : Active) → slice_get (us ++ v ∷ []) j ≡ Some w → (w ≡ v) ⊎ (slice_get us j ≡ Some w)
at_pushed [] zero v w there = inl (cc)
at_pushed [] (suc j) v w there = absurd (cc)
at_pushed (x ∷ us) zero v w there = inr there
at_pushed (x ∷ us) (suc j) v w there = at_pushed us j v w there

-- one unit changes

one_grown : (us : List Active) (k : ℕ) (u v : Active) (reads : List Read) (assigns : ℕ) → slice_get us k ≡ Some u → v.serial ≡ u.serial → v.log ≡ u.log ++ reads → Grown us (slice_set us k v) assigns
one_grown us k u v reads assigns at serial log j w there less =
    elim (at_set us k j u v w at there) [
      | inl new ↦ record {
        position = k;
        unit = u;
        is_unit = at;
        same = sym serial ∙ ap (λ (x : Active). x.serial) (sym new);
        reads = reads;
        log = ap (λ (x : Active). x.log) new ∙ log;
      }
      | inr old ↦ as_it_was us j w old
    ]

-- the head leaves, and the next unit takes registers

filled_from : (regs : ℕ → ℕ) (head : Active) (rest : List Active) (j : ℕ) (w : Active) → slice_get (filled regs rest) j ≡ Some w → From (head ∷ rest) w
filled_from regs head [] j w there = absurd (cc)
filled_from regs head (x ∷ rest) zero w there =
    let is = ap (λ (o : Option Active). unwrap_or o x) there in
    record { position = 1; unit = x; is_unit = refl; same = ap (λ (u : Active). u.serial) is; reads = []; log = ap (λ (u : Active). u.log) (sym is) ∙ sym (append-nil x.log) }
filled_from regs head (x ∷ rest) (suc j) w there = as_it_was (head ∷ (x ∷ rest)) (suc (suc j)) w there

module _ (p : Listing) (units : ℕ) (s s' : State) where
  keeps : (t : State) → s' ≡ t → Grown s.queue t.queue s.assigns → Grown s.queue s'.queue s.assigns
  keeps t is grown = subst (λ (x : State). Grown s.queue x.queue s.assigns) (sym is) grown

  event_grown : (e : Event) → Next p units s e s' → Grown s.queue s'.queue s.assigns
  event_grown (Assign t) next =
      keeps _ next.does.is
      (λ j w there less. elim (at_pushed s.queue j (started p s t) w there) [
        | inl new ↦ (let serial : w.serial ≡ s.assigns = ap (λ (x : Active). x.serial) new in absurd (omega arith))
        | inr old ↦ as_it_was s.queue j w old
      ])
  event_grown (Exec k) next =
      let d = next.does in
      let v = after_exec p d.unit d.at d.index d.a d.b s.memory in
      keeps _ d.is
      (one_grown s.queue k d.unit v (record { pc = address d.index; a = d.a; b = d.b } ∷ []) s.assigns d.is_unit (exec_serial (outcome_after d.at.op d.a) p d.unit d.at d.index d.a d.b s.memory) refl)
  event_grown (Transfer k r) next =
      let d = next.does in keeps _ d.is (one_grown s.queue k d.unit _ [] s.assigns d.is_unit refl (sym (append-nil d.unit.log)))
  event_grown (Drain k r) next =
      let d = next.does in
      keeps _ d.is
      (one_grown s.queue k d.unit d.after [] s.assigns d.is_unit (ap (λ (u : Active). u.serial) d.sends.is) (ap (λ (u : Active). u.log) d.sends.is ∙ sym (append-nil d.unit.log)))
  event_grown (Squash k) next =
      keeps _ next.does.is (λ j w there less. as_it_was s.queue j w (at_taken s.queue (suc k) j w there))
  event_grown Retire next =
      let d = next.does in
      keeps _ d.is
      (λ j w there less. subst (λ (us : List Active). From us w) (sym d.is_queue) (filled_from (handed_over p d.head s.regs) d.head d.rest j w there))
  event_grown Fault next = keeps _ next.does.is (λ j w there less. as_it_was s.queue j w there)
  event_grown (Drop k) next =
      keeps _ next.does.is (λ j w there less. as_it_was s.queue j w (at_taken s.queue k j w there))

  assigned : (e : Event) → Next p units s e s' → s.assigns ≤ s'.assigns
  assigned (Assign t) next = (let same : s'.assigns ≡ suc s.assigns = ap (λ (x : State). x.assigns) next.does.is in omega arith)
  assigned (Exec k) next = (let same : s'.assigns ≡ s.assigns = ap (λ (x : State). x.assigns) next.does.is in omega arith)
  assigned (Transfer k r) next = (let same : s'.assigns ≡ s.assigns = ap (λ (x : State). x.assigns) next.does.is in omega arith)
  assigned (Drain k r) next = (let same : s'.assigns ≡ s.assigns = ap (λ (x : State). x.assigns) next.does.is in omega arith)
  assigned (Squash k) next = (let same : s'.assigns ≡ s.assigns = ap (λ (x : State). x.assigns) next.does.is in omega arith)
  assigned Retire next = (let same : s'.assigns ≡ s.assigns = ap (λ (x : State). x.assigns) next.does.is in omega arith)
  assigned Fault next = (let same : s'.assigns ≡ s.assigns = ap (λ (x : State). x.assigns) next.does.is in omega arith)
  assigned (Drop k) next = (let same : s'.assigns ≡ s.assigns = ap (λ (x : State). x.assigns) next.does.is in omega arith)

-- any number of events

joined : (us : List Active) (v w : Active) (reads : List Read) → From us v → v.serial ≡ w.serial → w.log ≡ v.log ++ reads → From us w
joined us v w reads from same log = record {
  position = from.position;
  unit = from.unit;
  is_unit = from.is_unit;
  same = from.same ∙ same;
  reads = from.reads ++ reads;
  log = log ∙ ap (λ (l : List Read). l ++ reads) from.log ∙ append_assoc from.unit.log from.reads reads;
}

run_grown : (p : Listing) (units : ℕ) (es : List Event) (s s' : State) → ReplaysFrom p units s es s' → Grown s.queue s'.queue s.assigns
run_grown p units [] s s' is k v at less =
    as_it_was s.queue k v (ap (λ (x : State). slice_get x.queue k) (sym is) ∙ at)
run_grown p units (e ∷ es) s s' replay k v at less =
    let mid = replay.0 in
    let old : s.assigns ≤ mid.assigns = assigned p units s mid e replay.1 in
    let later = run_grown p units es mid s' replay.2 k v at (omega arith) in
    let serial : later.unit.serial ≡ v.serial = later.same in
    let first = event_grown p units s mid e replay.1 later.position later.unit later.is_unit (omega arith) in
    joined s.queue later.unit v later.reads first later.same later.log

-- a list of events leaves one state
same_end : NextIsAfter → (p : Listing) (units : ℕ) (es : List Event) (s a b : State) → ReplaysFrom p units s es a → ReplaysFrom p units s es b → a ≡ b
same_end law p units [] s a b to_a to_b = to_a ∙ sym to_b
same_end law p units (e ∷ es) s a b to_a to_b =
    let same : to_b.0 ≡ to_a.0 = law p units s to_b.0 e to_b.1 ∙ sym (law p units s to_a.0 e to_a.1) in
    same_end law p units es to_a.0 a b to_a.2 (subst (λ (m : State). ReplaysFrom p units m es b) same to_b.2)

pub logs_grow : ReplayCut → NextIsAfter → LogsGrow
logs_grow cut law p units earlier later both =
    let s = both.before in
    let parts = (cut p units (opening p) both.after both.events both.more).0 both.replay_on in
    let on : ReplaysFrom p units s both.more both.after =
    subst (λ (m : State). ReplaysFrom p units m both.more both.after) (same_end law p units both.events (opening p) parts.0 s parts.1 both.replay) parts.2 in
    let below : earlier.serial < s.assigns = serial_below p units both.events s both.replay both.position earlier both.is_unit in
    let same : earlier.serial ≡ later.serial = both.same in
    let from = run_grown p units both.more s both.after on both.position_after later both.is_unit_after (omega arith) in
    let one : from.position ≡ both.position = serials_distinct p units both.events s both.replay from.position both.position from.unit earlier from.is_unit both.is_unit (from.same ∙ sym same) in
    let here : Some from.unit ≡ Some earlier = sym from.is_unit ∙ ap (λ (k : ℕ). slice_get s.queue k) one ∙ both.is_unit in
    let unit : from.unit ≡ earlier = cc in
    (from.reads, from.log ∙ ap (λ (u : Active). u.log ++ from.reads) unit)

none_more : (reads : List Read) → length reads ≡ 0 → reads ≡ []
none_more [] none = refl
none_more (read ∷ reads) none = absurd (omega (arith, none))

pub length_tells : LogsGrow → (p : Listing) (units : ℕ) (earlier later : Active) → SameSerial p units earlier later → length earlier.log ≡ length later.log → earlier.log ≡ later.log
length_tells law p units earlier later both long =
    let grown = law p units earlier later both in
    let all : length later.log ≡ length earlier.log + length grown.0 = ap length grown.1 ∙ length-append earlier.log grown.0 in
    let none : length grown.0 ≡ 0 = omega arith in
    sym (grown.1 ∙ ap (λ (l : List Read). earlier.log ++ l) (none_more grown.0 none) ∙ append-nil earlier.log)
