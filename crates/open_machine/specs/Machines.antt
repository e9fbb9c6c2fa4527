-- The open machine as contracts see it: any well-formed program, what the events changed, and how many there
-- were.
use Rattle.std.specs.Prelude.{◌≡◌, ℕ, ◌+◌, ◌≤◌, ◌⊎◌, IsTrue, length, Result, Ok, Err}
use Rattle.task_descriptor.specs.Listing.{Listing}
use Rattle.machine_model.specs.Machine.{State}
use Rattle.machine_model.specs.Step.{Next}
use Rattle.machine_model.specs.Answer.{answer, after, most_events}
use Rattle.machine_model.specs.Claims.{committed}
use Rattle.machine_model.specs.declared.event.Event.{Event}
use Rattle.machine_model.specs.declared.event.Refused.{Refused}
use Rattle.machine_model.specs.declared.event.Refused.TheVariants as refused
use Rattle.processor_steps.specs.Processors.{ProcessorView, executed_by, state_of, takes_memory}

pub record OpenView : Type 0 where
  pub program : Listing
  pub processor : ProcessorView
  pub count : ℕ

-- the machine as the model's state, and how many units it has
abbrev pub state : OpenView → State
state m = state_of m.processor

abbrev pub units_of : OpenView → ℕ
units_of m = m.processor.queue.capacity

-- what the model answers to an event here
abbrev pub answer_to : OpenView → Event → Result (Unit {0}) Refused
answer_to m e = answer m.program (units_of m) (state m) m.count e

-- the model's answer, or that memory is lacking where the model answers Ok and the event takes memory
abbrev pub IsAnswered : OpenView → Event → Result (Unit {0}) Refused → Type 0
IsAnswered m e result =
    (result ≡ answer_to m e)
    ⊎ ((result ≡ Err refused.OutOfMemory) × (answer_to m e ≡ Ok tt) × IsTrue (takes_memory e))

-- a machine after an event: the next state by the machine step, which is what the event leaves; one more event, over
-- the same program
pub record Applies (old : OpenView) (e : Event) (new : OpenView) : Type 0 where
  pub next : Next old.program (units_of old) (state old) e (state new)
  pub leaves : state new ≡ after old.program (state old) e
  pub count : new.count ≡ old.count + 1

-- what every machine keeps: there were no more Assigns, nor instructions, than events, and each instruction of a
-- retired task has left one read
pub record IsOpen (m : OpenView) : Type 0 where
  pub room : m.count ≤ most_events
  pub assigns : (state m).assigns ≤ m.count
  pub executed : executed_by (state m) ≤ m.count
  pub reads : length (state m).reads ≡ committed (state m).commits
