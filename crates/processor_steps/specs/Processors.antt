-- The processor as contracts see it: lists for its arrays and vectors, and one function from them to the
-- state that the machine step uses.
use Rattle.std.specs.Prelude.{◌≡◌, ℕ, ◌+◌, ◌⊎◌, List, map, length, slice_index, nat_eq, position, Bool, true, false, Option, Some, None, Result, OnOk, OnErr, IfErr}
use Rattle.std.specs.List.{sum_by}
use Rattle.mips_plain.specs.declared.outcome.Read.{Read}
use Rattle.task_descriptor.specs.Listing.{Listing}
use Rattle.machine_model.specs.Machine.{Active, State}
use Rattle.machine_model.specs.Step.{Next}
use Rattle.machine_model.specs.Answer.{later_refusal}
use Rattle.machine_model.specs.Claims.{committed}
use Rattle.machine_model.specs.declared.event.Commit.{Commit}
use Rattle.machine_model.specs.declared.event.Event.{Event}
use Rattle.machine_model.specs.declared.event.Event.TheVariants.{Exec, Retire}
use Rattle.machine_model.specs.declared.event.Refused.{Refused}
use Rattle.machine_model.specs.declared.event.Refused.TheVariants as refused
use Rattle.unit_core.specs.Units.{UnitView, active_of}
use Rattle.unit_core.specs.Worlds.{WorldView, memory_of}

-- the units from the head to the tail, and how many there may be
pub record QueueView : Type 0 where
  pub units : List UnitView
  pub capacity : ℕ

abbrev pub actives : QueueView → List Active
actives q = map active_of q.units

-- what the events change
pub record ProcessorView : Type 0 where
  pub queue : QueueView
  pub registers : List ℕ
  pub world : WorldView
  pub next : ℕ
  pub reads : List Read
  pub commits : List Commit
  pub assigns : ℕ

abbrev pub state_of : ProcessorView → State
state_of v = record {
  queue = actives v.queue;
  regs = λ r. slice_index v.registers r;
  memory = memory_of v.world;
  output = v.world.output;
  outcome = v.world.outcome;
  next = v.next;
  reads = v.reads;
  commits = v.commits;
  assigns = v.assigns;
}

-- no event changes the number of units or read-only data
pub record Keeps (old new : ProcessorView) : Type 0 where
  pub capacity : new.queue.capacity ≡ old.queue.capacity
  pub fixed : new.world.contents.fixed ≡ old.world.contents.fixed

-- the position of the unit with a serial number, the first from the head
abbrev pub position_with : List Active → (serial : ℕ) → Option ℕ
position_with us serial = position (λ u. nat_eq u.serial serial) us

-- the events that may take memory
abbrev pub takes_memory : Event → Bool
takes_memory (Exec k) = true
takes_memory Retire = true
takes_memory _ = false

-- a call on a processor while the run continues: it returns what refuses the event or, for an event that
-- takes memory, that memory is lacking; Ok leaves a state by the machine step, else nothing is changed
pub record Steps (p : Listing) (old : ProcessorView) (n : ℕ) (e : Event) (result : Result (Unit {0}) Refused) (new : ProcessorView) : Type 0 where
  pub allowed : OnOk result (later_refusal p old.queue.capacity (state_of old) n e ≡ None)
  pub refused : IfErr result (λ why.
      (later_refusal p old.queue.capacity (state_of old) n e ≡ Some why)
      ⊎ ((takes_memory e ≡ true) × (why ≡ refused.OutOfMemory) × (later_refusal p old.queue.capacity (state_of old) n e ≡ None)))
  pub next : OnOk result (Next p old.queue.capacity (state_of old) e (state_of new))
  pub kept : Keeps old new
  pub err : OnErr result (new ≡ old)

-- how many instructions the active tasks executed, and how many all tasks did, the retired ones included
abbrev pub by_units : List Active → ℕ
by_units us = sum_by (λ u. length u.log) us

abbrev pub executed_by : State → ℕ
executed_by s = committed s.commits + by_units s.queue
