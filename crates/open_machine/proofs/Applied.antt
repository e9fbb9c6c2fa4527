-- A machine stays one over each event that is allowed.
use Rattle.std.specs.Prelude.{◌≡◌, ℕ, ◌+◌, ◌<◌, ◌≤◌, ◌^◌, List, [], ◌∷◌, length, Ok}
use Rattle.std.proofs.Common.{arith, refl, sym, ap, ◌∙◌, subst, length-append}
use Rattle.std.proofs.lemmas.List.Sums.{sum_by_push}
use Rattle.task_descriptor.specs.Listing.{Listing}
use Rattle.machine_model.specs.Machine.{Active, State}
use Rattle.machine_model.specs.Step.{Next, retire_leaves}
use Rattle.machine_model.specs.Claims.{by_head, committed}
use Rattle.machine_model.specs.declared.event.Commit.{Commit}
use Rattle.machine_model.specs.declared.event.Event.{Event}
use Rattle.machine_model.specs.declared.event.Event.TheVariants.{Assign, Exec, Transfer, Drain, Squash, Retire, Fault, Drop}
use Rattle.processor_steps.specs.Processors.{ProcessorView, Steps, by_units, state_of}
use Rattle.processor_steps.proofs.Growing.{assigns_grow, executes, log_within}
use Rattle.processor_steps.proofs.TriedSteps.{has_room}
use Rattle.open_machine.specs.Machines.{IsOpen, OpenView, state, units_of}

-- each instruction of a retired task has left one read
module _ (p : Listing) (units : ℕ) (s s' : State) (h : length s.reads ≡ committed s.commits) where
  as_before : (t : State) → s' ≡ t → length t.reads ≡ committed t.commits → length s'.reads ≡ committed s'.commits
  as_before t is counted = subst (λ (x : State). length x.reads ≡ committed x.commits) (sym is) counted

  pub counted : (e : Event) → Next p units s e s' → length s'.reads ≡ committed s'.commits
  counted (Assign t) next = as_before _ next.does.is h
  counted (Exec k) next = as_before _ next.does.is h
  counted (Transfer k r) next = as_before _ next.does.is h
  counted (Drain k r) next = as_before _ next.does.is h
  counted (Squash k) next = as_before _ next.does.is h
  counted Retire next =
      let d = next.does in
      let commit : Commit = record { task = d.head.task; exit = d.exit; count = length d.head.log } in
      as_before (retire_leaves p s d.head d.rest d.exit) d.is
      (length-append s.reads d.head.log ∙ ap (λ (n : ℕ). n + length d.head.log) h ∙ sym (sum_by_push (λ (x : Commit). x.count) s.commits commit))
  counted Fault next = as_before _ next.does.is h
  counted (Drop k) next = as_before _ next.does.is h

-- one event more
pub stays_open : (m : OpenView) (e : Event) (done : Unit {0}) (new : ProcessorView) (count : ℕ) → IsOpen m → Steps m.program m.processor m.count e (Ok done) new → count ≡ m.count + 1 → IsOpen (record { program = m.program; processor = new; count = count })
stays_open m e done new count h d is =
    let room = has_room m.program m.processor m.count e done new d in
    let one = executes m.program (units_of m) (state m) (state_of new) e d.next in
    let more = assigns_grow m.program (units_of m) (state m) (state_of new) e d.next in
    record {
      room = omega arith;
      assigns = omega (arith, h.assigns);
      executed = omega (arith, h.executed);
      reads = counted m.program (units_of m) (state m) (state_of new) h.reads e d.next;
    }

head_within : (us : List Active) → by_head us ≤ by_units us
head_within [] = omega arith
head_within (u ∷ us) = log_within (u ∷ us) 0 u refl

-- no more was executed than there were events
pub few_executed : (m : OpenView) → IsOpen m → length (state m).reads + by_head (state m).queue < 2 ^ 32
few_executed m h =
    let head = head_within (state m).queue in
    omega (arith, h.room, h.executed, h.reads)
