-- One instruction of a unit in a queue is the Exec event of the machine step.
use Rattle.std.proofs.Common.{◌≡◌, ℕ, zero, suc, ◌<◌, ◌⊎◌, inl, inr, Result, Ok, Err, lt-ltb, Bool, true, false, List, Option, Some, None, refl, sym, ap, ◌∙◌, subst, arith}
use Rattle.std.specs.Prelude.{slice_get, slice_set, slice_index, nat_eq, nat_lt, OnOk, OnErr, IfErr}
use Rattle.std.specs.Option.{option_or}
use Rattle.std.proofs.Math.Dec.{eqb-suc-zero}
use Rattle.mips_plain.specs.Effect.{outcome_after}
use Rattle.mips_plain.specs.declared.outcome.Outcome.{Outcome}
use Rattle.mips_plain.specs.declared.outcome.Outcome.TheVariants as outcome
use Rattle.task_descriptor.specs.Listing.{Listing}
use Rattle.task_descriptor.specs.declared.descriptor.Marked.{Marked}
use Rattle.machine_model.specs.Machine.{Active, State}
use Rattle.machine_model.specs.Unit.{exec_refusal, executed}
use Rattle.machine_model.specs.Step.{Next}
use Rattle.machine_model.specs.Burst.{StepsAlone, with_arrived}
use Rattle.machine_model.specs.Laws.{BurstsAreEvents}
use Rattle.machine_model.specs.Refusals.{for_some, unless}
use Rattle.machine_model.specs.Answer.{refusal, with_queue, most_events}
use Rattle.machine_model.specs.declared.event.Event.TheVariants.{Exec}
use Rattle.machine_model.specs.declared.event.Refused.{Refused}
use Rattle.machine_model.specs.declared.event.Refused.TheVariants as refused
use Rattle.machine_model.specs.declared.event.Standing.TheVariants.{Running}
use Rattle.unit_core.specs.Worlds.{WorldView, memory_of}
use Rattle.processor_steps.specs.Processors.{ProcessorView, state_of, actives, Steps}
use Rattle.processor_steps.specs.CallParts.{HeadStep, AheadStep, IsRefusedBy}
use Rattle.processor_steps.proofs.Outcomes.{refusal_at}

-- the head

pub head_steps : (p : Listing) (units : ℕ) (old new : ProcessorView) → (state_of old).outcome ≡ Running → HeadStep p (actives old.queue) (actives new.queue) old.world new.world
    → (state_of new).regs ≡ (state_of old).regs → new.next ≡ old.next → new.reads ≡ old.reads → new.commits ≡ old.commits → new.assigns ≡ old.assigns
    → Next p units (state_of old) (Exec 0) (state_of new)
head_steps p units old new runs step regs next reads commits assigns =
    let d = step.step in
    let queue = step.is ∙ ap (λ (u : Active). slice_set (actives old.queue) 0 u) d.is in
    record {
      runs = runs;
      does = record {
        unit = step.unit;
        is_unit = step.is_unit;
        index = d.index;
        at = d.at;
        a = d.a;
        b = d.b;
        next = d.next;
        may = inl refl;
        is = λ j. record {
          queue = queue j;
          regs = regs j;
          memory = d.memory j;
          output = d.output j;
          outcome = d.outcome j;
          next = next j;
          reads = reads j;
          commits = commits j;
          assigns = assigns j;
        };
      };
    }

-- a unit after it: a burst of one step

arrived_stays : (o : Outcome) (p : Listing) (u : Active) (m : Marked) (index a b : ℕ) (memory : ℕ → ℕ) → (executed o p u m index a b memory).arrived ≡ u.arrived
arrived_stays outcome.Running p u m index a b memory = refl
arrived_stays outcome.Halted p u m index a b memory = refl
arrived_stays (outcome.Trapped trap) p u m index a b memory = refl

same_arrived : (p : Listing) (u u' : Active) → StepsAlone p u u' → with_arrived u' u.arrived ≡ u'
same_arrived p u u' h =
    let arrived : u'.arrived ≡ u.arrived = ap (λ (x : Active). x.arrived) h.is ∙ arrived_stays (outcome_after h.at.op h.a) p u h.at h.index h.a h.b Rattle.machine_model.specs.Burst.no_memory in
    ap (λ (w : ℕ → Option ℕ). with_arrived u' w) (sym arrived)

pub ahead_steps : BurstsAreEvents → (p : Listing) (units k : ℕ) (s s' : State) → s.outcome ≡ Running → (us' : List Active) → AheadStep p k s.queue us' → s' ≡ with_queue s us' → Next p units s (Exec k) s'
ahead_steps law p units k s s' runs us' step is =
    let u = step.unit in
    let one = law p units 1 k s u step.after u.arrived (u, refl, step.step) (λ r word e. e) runs step.is_unit in
    let same : s' ≡ one.0 =
    is ∙ ap (λ (x : List Active). with_queue s x) (step.is ∙ ap (λ (v : Active). slice_set s.queue k v) (sym (same_arrived p u step.after step.step))) ∙ one.2 in
    subst (Next p units s (Exec k)) (sym same) one.1

-- the tries of an Exec

pub not_zero : (k : ℕ) → 0 < k → nat_eq k 0 ≡ false
not_zero zero h = absurd (omega arith)
not_zero (suc k) h = eqb-suc-zero k

pub on_err : {T E : Type 0} (r : Result T E) (A B : Type 0) → OnErr r A → (A → B) → OnErr r B
on_err (Ok x) A B h f = tt
on_err (Err e) A B h f = f h

pub room_none : (r : Option Refused) (n : ℕ) → r ≡ None → n < most_events → option_or r (unless (nat_lt n most_events) refused.Full None) ≡ None
room_none r n none room =
    ap (λ (o : Option Refused). option_or o (unless (nat_lt n most_events) refused.Full None)) none
    ∙ ap (λ (b : Bool). unless b refused.Full None) (lt-ltb n most_events room)

refused_later : (r : Option Refused) (n : ℕ) (why : Refused) → n < most_events → IsRefusedBy why r → (option_or r (unless (nat_lt n most_events) refused.Full None) ≡ Some why) ⊎ ((true ≡ true) × (why ≡ refused.OutOfMemory) × (option_or r (unless (nat_lt n most_events) refused.Full None) ≡ None))
refused_later r n why room (inl is) = inl (ap (λ (o : Option Refused). option_or o (unless (nat_lt n most_events) refused.Full None)) is)
refused_later r n why room (inr memory) = inr (refl, memory.0, room_none r n memory.1 room)

-- fields that an Exec leaves alone
pub record LeavesRest (old new : ProcessorView) : Type 0 where
  pub registers : new.registers ≡ old.registers
  pub next : new.next ≡ old.next
  pub reads : new.reads ≡ old.reads
  pub commits : new.commits ≡ old.commits
  pub assigns : new.assigns ≡ old.assigns
  pub capacity : new.queue.capacity ≡ old.queue.capacity

pub head_tried : (p : Listing) (old new : ProcessorView) (n : ℕ) (result : Result (Unit {0}) Refused) → n < most_events → (state_of old).outcome ≡ Running → LeavesRest old new
    → OnOk result (HeadStep p (actives old.queue) (actives new.queue) old.world new.world)
    → IfErr result (λ why. IsRefusedBy why (refusal p old.queue.capacity (state_of old) (Exec 0))) → OnErr result (new ≡ old) → Steps p old n (Exec 0) result new
head_tried p old new n (Ok done) room runs rest ok refused err =
    let may : refusal p old.queue.capacity (state_of old) (Exec 0) ≡ None = refusal_at p true (actives old.queue) 0 ok.unit None ok.is_unit ok.may in
    record {
      allowed = room_none _ n may room;
      refused = tt;
      next = head_steps p old.queue.capacity old new runs ok (ap (λ (xs : List ℕ). λ r. slice_index xs r) rest.registers) rest.next rest.reads rest.commits rest.assigns;
      kept = record { capacity = rest.capacity; fixed = ok.step.fixed };
      err = tt;
    }
head_tried p old new n (Err why) room runs rest ok refused err = record {
  allowed = tt;
  refused = refused_later _ n why room refused;
  next = tt;
  kept = record { capacity = rest.capacity; fixed = ap (λ (v : ProcessorView). v.world.contents.fixed) err };
  err = err;
}

pub ahead_tried : BurstsAreEvents → (p : Listing) (old new : ProcessorView) (n k : ℕ) (result : Result (Unit {0}) Refused) → n < most_events → nat_eq k 0 ≡ false → (state_of old).outcome ≡ Running → LeavesRest old new → new.world ≡ old.world
    → OnOk result (AheadStep p k (actives old.queue) (actives new.queue))
    → IfErr result (λ why. IsRefusedBy why (for_some (slice_get (actives old.queue) k) refused.NoSuch (exec_refusal p false))) → OnErr result (new ≡ old) → Steps p old n (Exec k) result new
ahead_tried law p old new n k (Ok done) room behind runs rest world ok refused err =
    let may : refusal p old.queue.capacity (state_of old) (Exec k) ≡ None =
    refusal_at p (nat_eq k 0) (actives old.queue) k ok.unit None ok.is_unit (ap (λ (b : Bool). exec_refusal p b ok.unit) behind ∙ ok.may) in
    record {
      allowed = room_none _ n may room;
      refused = tt;
      next =
          ahead_steps law p old.queue.capacity k (state_of old) (state_of new) runs (actives new.queue) ok
          (λ j. record {
            queue = actives new.queue;
            regs = λ r. slice_index (rest.registers j) r;
            memory = memory_of (world j);
            output = (world j).output;
            outcome = (world j).outcome;
            next = rest.next j;
            reads = rest.reads j;
            commits = rest.commits j;
            assigns = rest.assigns j;
          });
      kept = record { capacity = rest.capacity; fixed = ap (λ (w : WorldView). w.contents.fixed) world };
      err = tt;
    }
ahead_tried law p old new n k (Err why) room behind runs rest world ok by err = record {
  allowed = tt;
  refused =
      refused_later _ n why room
      (subst (λ (b : Bool). IsRefusedBy why (for_some (slice_get (actives old.queue) k) refused.NoSuch (exec_refusal p b))) (sym behind) by);
  next = tt;
  kept = record { capacity = rest.capacity; fixed = ap (λ (w : WorldView). w.contents.fixed) world };
  err = err;
}
