-- A burst is a list of Exec events: what a step reads it finds with more registers arrived too, and it
-- leaves the same; by induction on the burst.
use Rattle.std.proofs.Common.{◌≡◌, ℕ, zero, suc, ◌⊎◌, inl, inr, Bool, true, false, cond, ◌&&◌, List, [], ◌∷◌, ◌++◌, replicate, Option, Some, None, refl, sym, ap, ◌∙◌, subst, set-set}
use mathlib.Core.Path.{fun_ext}
use Rattle.std.specs.Prelude.{slice_get, slice_set, nat_eq, is_some}
use Rattle.std.specs.Option.{option_or}
use Rattle.std.proofs.lemmas.Bool.{or_cases, and_parts}
use Rattle.mips_instructions.specs.Words.{address}
use Rattle.mips_plain.specs.MemoryMap.{byte_of}
use Rattle.mips_instructions.specs.Instruction.{reg_a, reg_b, released, dests, taken, turn}
use Rattle.mips_plain.specs.Effect.{written, memory_after, output_after, outcome_after}
use Rattle.mips_plain.specs.declared.outcome.Outcome.{Outcome}
use Rattle.mips_plain.specs.declared.outcome.Outcome.TheVariants.{Running}
use Rattle.task_descriptor.specs.Listing.{Listing}
use Rattle.task_graph.specs.Edges.{edge, leaves, sends}
use Rattle.machine_model.specs.Machine.{Words, Active, State, value}
use Rattle.machine_model.specs.Unit.{with_written, place_after, moved, executed, after_exec}
use Rattle.machine_model.specs.Step.{Next, stands}
use Rattle.machine_model.specs.Replay.{ReplaysFrom}
use Rattle.machine_model.specs.Answer.{with_queue}
use Rattle.machine_model.specs.Burst.{no_memory, StepsAlone, Burst, AllIn, with_arrived}
use Rattle.machine_model.specs.declared.event.Event.{Event}
use Rattle.machine_model.specs.declared.event.Event.TheVariants.{Exec}
use Rattle.machine_model.specs.declared.event.Standing.TheVariants as standing
use Rattle.machine_model.proofs.Instructions.{ahead_written, ahead_runs, ahead_memory, ahead_output, dest_written}
use Rattle.machine_model.proofs.Replays.{joined}

-- Lists

set_found : (us : List Active) (k : ℕ) (u v : Active) → slice_get us k ≡ Some u → slice_get (slice_set us k v) k ≡ Some v
set_found [] k u v e = absurd (cc)
set_found (x ∷ us) zero u v e = refl
set_found (x ∷ us) (suc k) u v e = set_found us k u v e

set_same : (us : List Active) (k : ℕ) (u : Active) → slice_get us k ≡ Some u → slice_set us k u ≡ us
set_same [] k u e = refl
set_same (x ∷ us) zero u e = (let same : x ≡ u = cc in ap (λ (y : Active). y ∷ us) (sym same))
set_same (x ∷ us) (suc k) u e = ap (λ (ys : List Active). x ∷ ys) (set_same us k u e)

one_more : (n : ℕ) (e : Event) → replicate n e ++ e ∷ [] ≡ e ∷ replicate n e
one_more zero e = refl
one_more (suc n) e = ap (λ (es : List Event). e ∷ es) (one_more n e)

-- Looked up with more registers arrived

value_more : (b : Bool) (l a a' : Option ℕ) (w : ℕ) → (a ≡ Some w → a' ≡ Some w) → cond b (Some 0) (option_or l a) ≡ Some w → cond b (Some 0) (option_or l a') ≡ Some w
value_more true l a a' w more e = e
value_more false (Some v) a a' w more e = e
value_more false None a a' w more e = more e

some_more : (b : Bool) (l a a' : Option ℕ) → ((w : ℕ) → a ≡ Some w → a' ≡ Some w) → is_some (cond b (Some 0) (option_or l a)) ≡ true → is_some (cond b (Some 0) (option_or l a')) ≡ true
some_more true l a a' more e = e
some_more false (Some v) a a' more e = e
some_more false None (Some v) a' more e = ap is_some (more v refl)
some_more false None None a' more e = absurd (cc)

-- what is sent has a value, so more arrivals leave it as it is
value_same : (b : Bool) (o l a a' : Option ℕ) → (is_some o ≡ true) ⊎ (is_some (cond b (Some 0) (option_or l a)) ≡ true) → ((w : ℕ) → a ≡ Some w → a' ≡ Some w) → cond b (Some 0) (option_or (option_or o l) a') ≡ cond b (Some 0) (option_or (option_or o l) a)
value_same true o l a a' has more = refl
value_same false (Some v) l a a' has more = refl
value_same false None (Some v) a a' has more = refl
value_same false None None (Some v) a' has more = more v refl
value_same false None None None a' (inl e) more = absurd (cc)
value_same false None None None a' (inr e) more = absurd (cc)

sent_same : (b : Bool) (s v v' : Option ℕ) → (b ≡ true → v' ≡ v) → option_or s (cond b v' None) ≡ option_or s (cond b v None)
sent_same true s v v' same = ap (option_or s) (same refl)
sent_same false s v v' same = refl

-- One step

module _ (p : Listing) (u u' : Active) (step : StepsAlone p u u') (arrived : Words) (more : AllIn u.arrived arrived) where
  runs : outcome_after step.at.op step.a ≡ Running
  runs = ahead_runs step.at.op step.a step.may_run_ahead

  has_more : (r w : ℕ) → value u r ≡ Some w → value (with_arrived u arrived) r ≡ Some w
  has_more r w e = value_more (nat_eq 0 r) (u.local r) (u.arrived r) (arrived r) w (more r w) e

  abbrev words : (ℕ → ℕ) → Words
  words memory = written step.at.op step.a step.b (address step.index) (byte_of p.fixed) memory

  words_same : (memory : ℕ → ℕ) → words memory ≡ words no_memory
  words_same memory = fun_ext (λ r. ahead_written step.at.op step.a step.b (address step.index) (byte_of p.fixed) memory no_memory r step.may_run_ahead)

  -- what it sends it has written, or had before
  sent_has : (r : ℕ) → sends step.at r ≡ true → (is_some (words no_memory r) ≡ true) ⊎ (is_some (value u r) ≡ true)
  sent_has r e = elim (or_cases (step.at.forward && dests step.at.op r) (released step.at.op r) e) [
    | inl f ↦ inl (dest_written step.at.op step.a step.b (address step.index) (byte_of p.fixed) no_memory r step.may_run_ahead (and_parts (step.at.forward) (dests step.at.op r) f).1)
    | inr g ↦ inr (step.next.has_released r g)
  ]

  abbrev with_both : Words → Words → Active
  with_both local sent = record u {
    arrived = arrived;
    local = local;
    sent = sent;
    place = place_after (leaves step.at.stop (taken step.at.op step.a step.b)) (edge step.at.op step.index (taken step.at.op step.a step.b)) (turn step.at.op step.a step.b (address step.index));
    log = u.log ++ record { pc = address step.index; a = step.a; b = step.b } ∷ [];
  }

  abbrev local_by : Words → Words
  local_by ws = λ r. option_or (ws r) (u.local r)

  -- what is sent then, by what has arrived
  abbrev sent_by : (had : Words) → (ws : Words) → Words
  sent_by had ws r = option_or (u.sent r) (cond (sends step.at r) (value (with_written (with_arrived u had) ws) r) None)

  sent_is : sent_by arrived (words no_memory) ≡ sent_by u.arrived (words no_memory)
  sent_is = fun_ext (λ r. sent_same (sends step.at r) (u.sent r) (value (with_written u (words no_memory)) r) (value (with_written (with_arrived u arrived) (words no_memory)) r)
      (λ e. value_same (nat_eq 0 r) (words no_memory r) (u.local r) (u.arrived r) (arrived r) (sent_has r e) (more r)))

  moved_same : (memory : ℕ → ℕ) → record (moved p (with_arrived u arrived) step.at step.index step.a step.b memory) { log = u.log ++ record { pc = address step.index; a = step.a; b = step.b } ∷ [] } ≡ with_arrived (record (moved p u step.at step.index step.a step.b no_memory) { log = u.log ++ record { pc = address step.index; a = step.a; b = step.b } ∷ [] }) arrived
  moved_same memory =
      ap (λ (ws : Words). with_both (local_by ws) (sent_by arrived ws)) (words_same memory)
      ∙ ap (with_both (local_by (words no_memory))) sent_is

  after_same : (memory : ℕ → ℕ) → after_exec p (with_arrived u arrived) step.at step.index step.a step.b memory ≡ with_arrived (after_exec p u step.at step.index step.a step.b no_memory) arrived
  after_same memory =
      ap (λ (o : Outcome). record (executed o p (with_arrived u arrived) step.at step.index step.a step.b memory) { log = u.log ++ record { pc = address step.index; a = step.a; b = step.b } ∷ [] }) runs
      ∙ moved_same memory
      ∙ ap (λ (o : Outcome). with_arrived (record (executed o p u step.at step.index step.a step.b no_memory) { log = u.log ++ record { pc = address step.index; a = step.a; b = step.b } ∷ [] }) arrived) (sym runs)

  -- what arrived is not touched
  pub arrived_same : u'.arrived ≡ u.arrived
  arrived_same = ap (λ (x : Active). x.arrived) step.is ∙ ap (λ (o : Outcome). (executed o p u step.at step.index step.a step.b no_memory).arrived) runs

  -- the event
  pub step_event : (units k : ℕ) (s : State) → s.outcome ≡ standing.Running → slice_get s.queue k ≡ Some (with_arrived u arrived) → Next p units s (Exec k) (with_queue s (slice_set s.queue k (with_arrived u' arrived)))
  step_event units k s goes_on is_unit = record {
    runs = goes_on;
    does = record {
      unit = with_arrived u arrived;
      is_unit = is_unit;
      index = step.index;
      at = step.at;
      a = step.a;
      b = step.b;
      next = record {
        is_inside = step.next.is_inside;
        is_there = step.next.is_there;
        has_a = has_more (reg_a step.at.op) step.a step.next.has_a;
        has_b = has_more (reg_b step.at.op) step.b step.next.has_b;
        has_released = λ r e. some_more (nat_eq 0 r) (u.local r) (u.arrived r) (arrived r) (more r) (step.next.has_released r e);
      };
      may = inr (step.may_run_ahead);
      is = ap (λ (x : Active). with_queue s (slice_set s.queue k (with_arrived x arrived))) step.is
          ∙ ap (λ (x : Active). with_queue s (slice_set s.queue k x)) (sym (after_same s.memory))
          ∙ ap (λ (m : ℕ → ℕ). record s { queue = slice_set s.queue k (after_exec p (with_arrived u arrived) step.at step.index step.a step.b s.memory); memory = m }) (sym (ahead_memory step.at.op step.a step.b s.memory step.may_run_ahead))
          ∙ ap (λ (o : List ℕ). record s { queue = slice_set s.queue k (after_exec p (with_arrived u arrived) step.at step.index step.a step.b s.memory); memory = memory_after step.at.op step.a step.b s.memory; output = o }) (sym (ahead_output step.at.op step.a s.output step.may_run_ahead))
          ∙ ap (λ (o : _). record s { queue = slice_set s.queue k (after_exec p (with_arrived u arrived) step.at step.index step.a step.b s.memory); memory = memory_after step.at.op step.a step.b s.memory; output = output_after step.at.op step.a s.output; outcome = o }) (goes_on ∙ sym (ap stands runs));
    };
  }

burst_arrived : (p : Listing) (u : Active) (n : ℕ) (u' : Active) → Burst p u n u' → u'.arrived ≡ u.arrived
burst_arrived p u zero u' h = ap (λ (x : Active). x.arrived) h
burst_arrived p u (suc n) u' h = arrived_same p h.0 u' h.2 u.arrived (λ r w e. subst (λ (f : Words). f r ≡ Some w) (burst_arrived p u n h.0 h.1) e) ∙ burst_arrived p u n h.0 h.1

pub bursts_are_events : (p : Listing) (units n k : ℕ) (s : State) (before after_burst : Active) (arrived : Words) → Burst p before n after_burst → AllIn before.arrived arrived → s.outcome ≡ standing.Running → slice_get s.queue k ≡ Some (with_arrived before arrived) → ReplaysFrom p units s (replicate n (Exec k)) (with_queue s (slice_set s.queue k (with_arrived after_burst arrived)))
bursts_are_events p units zero k s before after_burst arrived burst more goes_on is_unit =
    ap (λ (x : Active). with_queue s (slice_set s.queue k (with_arrived x arrived))) burst
    ∙ ap (with_queue s) (set_same s.queue k (with_arrived before arrived) is_unit)
bursts_are_events p units (suc n) k s before after_burst arrived burst more goes_on is_unit =
    let mid : Active = burst.0 in
    let s1 : State = with_queue s (slice_set s.queue k (with_arrived mid arrived)) in
    let first = bursts_are_events p units n k s before mid arrived burst.1 more goes_on is_unit in
    let more_mid : AllIn mid.arrived arrived = λ r w e. more r w (subst (λ (f : Words). f r ≡ Some w) (burst_arrived p before n mid burst.1) e) in
    let event = step_event p mid after_burst burst.2 arrived more_mid units k s1 goes_on (set_found s.queue k (with_arrived before arrived) (with_arrived mid arrived) is_unit) in
    let event' : Next p units s1 (Exec k) (with_queue s (slice_set s.queue k (with_arrived after_burst arrived))) =
    subst (λ (x : List Active). Next p units s1 (Exec k) (with_queue s x)) (set-set s.queue k (with_arrived mid arrived) (with_arrived after_burst arrived)) event in
    subst (λ (es : List Event). ReplaysFrom p units s es (with_queue s (slice_set s.queue k (with_arrived after_burst arrived)))) (one_more n (Exec k))
    (joined p units s s1 (with_queue s (slice_set s.queue k (with_arrived after_burst arrived))) (replicate n (Exec k)) (Exec k ∷ []) first (_, event', refl))
