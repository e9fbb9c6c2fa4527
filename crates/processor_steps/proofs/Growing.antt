-- An event lets at most one instruction more be executed, and at most one task more be assigned.
use Rattle.std.proofs.Common.{◌≡◌, ℕ, suc, ◌+◌, ◌<◌, ◌≤◌, List, [], ◌∷◌, length, Some, refl, sym, ap, ◌∙◌, arith, length-append}
use Rattle.std.specs.Prelude.{slice_get, slice_set}
use Rattle.std.proofs.lemmas.List.Sums.{sum_by-set, sum_by_push, sum_by-take-le, sum_by-cons}
use Rattle.std.proofs.lemmas.Option.{slice_get_within, get_or_from_slice_get}
use Rattle.mips_instructions.specs.Words.{address}
use Rattle.task_descriptor.specs.Listing.{Listing}
use Rattle.machine_model.specs.Machine.{Active, State}
use Rattle.machine_model.specs.Unit.{after_exec, put}
use Rattle.machine_model.specs.Step.{Next, started, filled, handed_over, retire_leaves}
use Rattle.machine_model.specs.declared.event.Commit.{Commit}
use Rattle.machine_model.specs.declared.event.Event.{Event}
use Rattle.machine_model.specs.declared.event.Event.TheVariants.{Assign, Exec, Transfer, Drain, Squash, Retire, Fault, Drop}
use Rattle.processor_steps.specs.Processors.{by_units, executed_by}

by_set : (us : List Active) (k : ℕ) (u v : Active) → slice_get us k ≡ Some u → by_units (slice_set us k v) + length u.log ≡ by_units us + length v.log
by_set us k u v e =
    let there : k < length us = slice_get_within us k u e in
    ap (λ (x : Active). by_units (slice_set us k v) + length x.log) (sym (get_or_from_slice_get us k u u e))
    ∙ sum_by-set (λ (x : Active). length x.log) us k v u there

-- a log is no longer than all of them
pub log_within : (us : List Active) (k : ℕ) (u : Active) → slice_get us k ≡ Some u → length u.log ≤ by_units us
log_within us k u e =
    let cut = by_set us k u (record u { log = [] }) e in omega arith

by_same : (us : List Active) (k : ℕ) (u v : Active) → slice_get us k ≡ Some u → v.log ≡ u.log → by_units (slice_set us k v) ≡ by_units us
by_same us k u v e same =
    let one = by_set us k u v e in
    let two : length v.log ≡ length u.log = ap length same in
    omega arith

by_filled : (us : List Active) (regs : ℕ → ℕ) → by_units (filled regs us) ≡ by_units us
by_filled [] regs = refl
by_filled (x ∷ us) regs = refl

within_one : (s s' t : State) → s' ≡ t → executed_by t ≤ suc (executed_by s) → executed_by s' ≤ suc (executed_by s)
within_one s s' t is h = (let same : executed_by s' ≡ executed_by t = ap executed_by is in omega arith)

module _ (p : Listing) (units : ℕ) (s s' : State) where
  pub executes : (e : Event) → Next p units s e s' → executed_by s' ≤ suc (executed_by s)
  executes (Assign t) next =
      let d = next.does in
      let more = sum_by_push (λ (x : Active). length x.log) s.queue (started p s t) in
      within_one s s' _ d.is (omega arith)
  executes (Exec k) next =
      let d = next.does in
      let v : Active = after_exec p d.unit d.at d.index d.a d.b s.memory in
      let changed = by_set s.queue k d.unit v d.is_unit in
      let log : length v.log ≡ length d.unit.log + 1 = length-append d.unit.log (record { pc = address d.index; a = d.a; b = d.b } ∷ []) in
      within_one s s' _ d.is (omega arith)
  executes (Transfer k r) next =
      let d = next.does in
      let same = by_same s.queue k d.unit (record (d.unit) { arrived = put r d.word d.unit.arrived }) d.is_unit refl in
      within_one s s' _ d.is (omega arith)
  executes (Drain k r) next =
      let d = next.does in
      let same = by_same s.queue k d.unit d.after d.is_unit (ap (λ (u : Active). u.log) d.sends.is) in
      within_one s s' _ d.is (omega arith)
  executes (Squash k) next =
      let d = next.does in
      let less = sum_by-take-le (λ (x : Active). length x.log) s.queue (suc k) in
      within_one s s' _ d.is (omega arith)
  executes Retire next =
      let d = next.does in
      let commit : Commit = record { task = d.head.task; exit = d.exit; count = length d.head.log } in
      let more = sum_by_push (λ (x : Commit). x.count) s.commits commit in
      let rest = by_filled d.rest (handed_over p d.head s.regs) in
      let queue : by_units s.queue ≡ length d.head.log + by_units d.rest =
      ap by_units d.is_queue ∙ sum_by-cons (λ (x : Active). length x.log) d.head d.rest in
      within_one s s' (retire_leaves p s d.head d.rest d.exit) d.is (omega arith)
  executes Fault next = (let d = next.does in within_one s s' _ d.is (omega arith))
  executes (Drop k) next =
      let d = next.does in
      let less = sum_by-take-le (λ (x : Active). length x.log) s.queue k in
      within_one s s' _ d.is (omega arith)

  pub assigns_grow : (e : Event) → Next p units s e s' → s'.assigns ≤ suc s.assigns
  assigns_grow (Assign t) next = (let same : s'.assigns ≡ suc s.assigns = ap (λ (x : State). x.assigns) next.does.is in omega arith)
  assigns_grow (Exec k) next = (let same : s'.assigns ≡ s.assigns = ap (λ (x : State). x.assigns) next.does.is in omega arith)
  assigns_grow (Transfer k r) next = (let same : s'.assigns ≡ s.assigns = ap (λ (x : State). x.assigns) next.does.is in omega arith)
  assigns_grow (Drain k r) next = (let same : s'.assigns ≡ s.assigns = ap (λ (x : State). x.assigns) next.does.is in omega arith)
  assigns_grow (Squash k) next = (let same : s'.assigns ≡ s.assigns = ap (λ (x : State). x.assigns) next.does.is in omega arith)
  assigns_grow Retire next = (let same : s'.assigns ≡ s.assigns = ap (λ (x : State). x.assigns) next.does.is in omega arith)
  assigns_grow Fault next = (let same : s'.assigns ≡ s.assigns = ap (λ (x : State). x.assigns) next.does.is in omega arith)
  assigns_grow (Drop k) next = (let same : s'.assigns ≡ s.assigns = ap (λ (x : State). x.assigns) next.does.is in omega arith)
