-- What the changes of an event tell of units: for each event, those that name one.
use Rattle.std.proofs.Common.{◌≡◌, ℕ, zero, suc, ◌+◌, List, [], ◌∷◌, ◌++◌, length, filter, flat_map, Bool, true, false, cond, Option, Some, None, refl, ap, ◌∙◌, slice_get, slice_set, unwrap_or}
use Rattle.std.proofs.lemmas.List.Elements.{filter-append}
use Rattle.std.specs.Prelude.{if◌then◌else◌}
use Rattle.std.specs.List.{range_with_len}
use Rattle.std.specs.Option.{option_or}
use Rattle.mips_instructions.specs.Instruction.{dests, reg_a, reg_b}
use Rattle.mips_instructions.specs.declared.instruction.Op.{Op}
use Rattle.mips_instructions.specs.declared.instruction.Op.TheVariants.{Load, Store, Out}
use Rattle.mips_plain.specs.Access.{load_at}
use Rattle.mips_plain.specs.MemoryMap.{byte_of, effective}
use Rattle.task_descriptor.specs.Listing.{Listing}
use Rattle.task_descriptor.specs.declared.descriptor.Marked.{Marked}
use Rattle.machine_model.specs.Machine.{Active, State, task_at}
use Rattle.machine_model.specs.Unit.{IsNext, after_drain, after_exec, put}
use Rattle.machine_model.specs.Step.{exec_leaves, filled, handed_over, retire_leaves, started}
use Rattle.machine_model.specs.Answer.{exit_of, index_of_place, instruction_at, operand}
use Rattle.machine_model.specs.declared.event.Event.TheVariants.{Assign, Exec, Transfer, Drain, Retire}
use Rattle.machine_model.specs.declared.event.Spot.{Spot}
use Rattle.machine_model.specs.declared.event.Spot.TheVariants.{Inside, Stopped}
use Rattle.machine_model.specs.declared.event.Standing.{Standing}
use Rattle.machine_model.specs.declared.event.Standing.TheVariants as standing
use Rattle.event_trace.specs.declared.change.Change.{Change}
use Rattle.event_trace.specs.declared.change.Change.TheVariants.{AtUnit, Took, Wrote, Sent}
use Rattle.event_trace.specs.declared.unit_change.UnitChange.TheVariants.{Began, Executed, Arrived, Drained, Retired, BecameHead}
use Rattle.event_trace.specs.Changes.{arrived, became_head, began, changes_of, drained, effects, executed, execution, for_registers, has_arrived, load_of, newly_sent, outside, register_count, retired, stands_at, taken, takes, unless_ended}
use Rattle.event_trace.proofs.SeenUnits.{now_last, now_there}

abbrev pub names_unit : Change → Bool
names_unit (AtUnit j task change) = true
names_unit change = false

abbrev pub at_units : List Change → List Change
at_units cs = filter names_unit cs

-- ---- changes that name none

none_in : (xs ys : List Change) → at_units xs ≡ [] → at_units ys ≡ [] → at_units (xs ++ ys) ≡ []
none_in xs ys here behind = filter-append names_unit xs ys ∙ (λ j. here j ++ behind j)

module _ (set : ℕ → Bool) (change : ℕ → Change) (unnamed : (r : ℕ) → names_unit (change r) ≡ false) where
  one : (b : Bool) (r : ℕ) (cs : List Change) → at_units (cond b (change r ∷ []) [] ++ cs) ≡ at_units cs
  one true r cs = ap (λ (b : Bool). cond b (change r ∷ at_units cs) (at_units cs)) (unnamed r)
  one false r cs = refl

  each : (n from : ℕ) → at_units (flat_map (λ r. if set r then change r ∷ [] else []) (range_with_len from n)) ≡ []
  each zero from = refl
  each (suc n) from =
      one (set from) from (flat_map (λ r. if set r then change r ∷ [] else []) (range_with_len (from + 1) n)) ∙ each n (from + 1)

  none_of_registers : at_units (for_registers set change) ≡ []
  none_of_registers = each register_count 0

none_taken : (before : ℕ → Bool) (v : Active) → at_units (taken before v) ≡ []
none_taken before v = none_of_registers (takes before v) (λ r. Took r (unwrap_or (v.arrived r) 0)) (λ r. refl)

none_loaded : (at : ℕ) (o : Option ℕ) → at_units (load_of at o) ≡ []
none_loaded at None = refl
none_loaded at (Some word) = refl

none_outside : (op : Op) (a b : ℕ) (fixed memory : ℕ → ℕ) → at_units (outside op a b fixed memory) ≡ []
none_outside (Load kind rt base n) a b fixed memory = none_loaded (effective a n) (load_at (Load kind rt base n) (effective a n) fixed memory)
none_outside (Store kind rt base n) a b fixed memory = refl
none_outside (Out rs) a b fixed memory = refl
none_outside op a b fixed memory = refl

none_standing : (spot : Spot) → at_units (stands_at spot ∷ []) ≡ []
none_standing (Inside index) = refl
none_standing (Stopped at) = refl

none_of_effects : (p : Listing) (s' : State) (u v : Active) (m : Marked) → at_units (effects p s' u v m) ≡ []
none_of_effects p s' u v m =
    let place : List Change = stands_at v.place ∷ [] in
    let sendings : List Change = for_registers (newly_sent u v) (λ r. Sent r (unwrap_or (v.sent r) 0)) in
    let writes : List Change = for_registers (dests m.op) (λ r. Wrote r (operand v r)) in
    let a = operand u (reg_a m.op) in
    let b = operand u (reg_b m.op) in
    none_in (outside m.op a b (byte_of p.fixed) s'.memory) (writes ++ (sendings ++ place)) (none_outside m.op a b (byte_of p.fixed) s'.memory)
    (none_in writes (sendings ++ place) (none_of_registers (dests m.op) (λ r. Wrote r (operand v r)) (λ r. refl))
    (none_in sendings place (none_of_registers (newly_sent u v) (λ r. Sent r (unwrap_or (v.sent r) 0)) (λ r. refl)) (none_standing v.place)))

none_unless : (o : Standing) (cs : List Change) → at_units cs ≡ [] → at_units (unless_ended o cs) ≡ []
none_unless standing.Running cs none = none
none_unless other cs none = refl

-- ---- the units of each event

-- the unit after one that retires
abbrev pub next_head : List Active → List Change
next_head [] = []
next_head (u ∷ us) = AtUnit 1 u.task BecameHead ∷ []

head_units : (rest : List Active) (regs : ℕ → ℕ) → at_units (became_head (has_arrived (slice_get rest 0)) (slice_get (filled regs rest) 0)) ≡ next_head rest
head_units [] regs = refl
head_units (u ∷ us) regs =
    let v : Active = record u { arrived = λ r. option_or (u.arrived r) (Some (regs r)) } in
    ap (λ (cs : List Change). AtUnit 1 u.task BecameHead ∷ cs) (none_taken (has_arrived (Some u)) v)

module _ (p : Listing) (s : State) where
  pub assign_units : (t : ℕ) → at_units (changes_of p s (Assign t) (record s { queue = s.queue ++ started p s t ∷ []; assigns = suc s.assigns })) ≡ AtUnit (length s.queue) t (Began (task_at p t).entry) ∷ []
  assign_units t =
      ap (λ (o : Option Active). at_units (began (length s.queue) o)) (now_last s.queue (started p s t))
      ∙ ap (λ (cs : List Change). AtUnit (length s.queue) t (Began (task_at p t).entry) ∷ cs) (none_taken (has_arrived None) (started p s t))

  pub exec_units : (k : ℕ) (u : Active) (m : Marked) (index a b : ℕ) → slice_get s.queue k ≡ Some u → IsNext p u index m a b
      → at_units (changes_of p s (Exec k) (exec_leaves p s k u m index a b)) ≡ AtUnit k u.task (Executed (index_of_place u.place)) ∷ []
  exec_units k u m index a b is_unit next =
      let t : State = exec_leaves p s k u m index a b in
      let v : Active = after_exec p u m index a b s.memory in
      let inside : instruction_at p u.place ≡ Some m = ap (λ (spot : Spot). instruction_at p spot) next.is_inside ∙ next.is_there in
      let now : slice_get t.queue k ≡ Some v = now_there s.queue k u v is_unit in
      (λ j. at_units (executed p t k (is_unit j) (now j)))
      ∙ ap (λ (at : Option Marked). at_units (execution p t k u v at)) inside
      ∙ ap (λ (cs : List Change). AtUnit k u.task (Executed (index_of_place u.place)) ∷ cs) (none_unless t.outcome (effects p t u v m) (none_of_effects p t u v m))

  pub transfer_units : (k r word : ℕ) (u : Active) → slice_get s.queue k ≡ Some u
      → at_units (changes_of p s (Transfer k r) (record s { queue = slice_set s.queue k (record u { arrived = put r word u.arrived }) })) ≡ AtUnit k u.task (Arrived r (unwrap_or (put r word u.arrived r) 0)) ∷ []
  transfer_units k r word u is =
      ap (λ (o : Option Active). at_units (arrived k r o)) (now_there s.queue k u (record u { arrived = put r word u.arrived }) is)

  pub drain_units : (k r word : ℕ) (u : Active) → slice_get s.queue k ≡ Some u
      → at_units (changes_of p s (Drain k r) (record s { queue = slice_set s.queue k (after_drain u r word) })) ≡ AtUnit k u.task (Drained r (unwrap_or (put r word u.sent r) 0)) ∷ []
  drain_units k r word u is =
      ap (λ (o : Option Active). at_units (drained k r o)) (now_there s.queue k u (after_drain u r word) is)

  pub retire_units : (head : Active) (rest : List Active) (exit : ℕ) → s.queue ≡ head ∷ rest
      → at_units (changes_of p s Retire (retire_leaves p s head rest exit)) ≡ AtUnit 0 head.task (Retired (unwrap_or (exit_of head.place) 0)) ∷ next_head rest
  retire_units head rest exit is =
      let regs : ℕ → ℕ = handed_over p head s.regs in
      let told : List Active → List Change = λ q. at_units (retired (slice_get q 0) ++ became_head (has_arrived (slice_get q 1)) (slice_get (filled regs rest) 0)) in
      ap told is
      ∙ ap (λ (cs : List Change). AtUnit 0 head.task (Retired (unwrap_or (exit_of head.place) 0)) ∷ cs) (head_units rest regs)
