-- The machine as contracts see it: its processor with the events that it is the replay of.
use Rattle.std.specs.Prelude.{◌≡◌, ℕ, ◌<◌, ◌≤◌, ◌⊎◌, List, [], ◌∷◌, ◌++◌, length, true, Result, Ok, Err, OnOk, OnErr}
use Rattle.mips_plain.specs.MemoryMap.{byte_of}
use Rattle.mark_checker.specs.Places.{Checked}
use Rattle.machine_model.specs.Machine.{State}
use Rattle.machine_model.specs.Step.{Next}
use Rattle.machine_model.specs.Answer.{answer, most_events}
use Rattle.machine_model.specs.Replay.{Replays}
use Rattle.machine_model.specs.declared.event.Event.{Event}
use Rattle.machine_model.specs.declared.event.Refused.{Refused}
use Rattle.machine_model.specs.declared.event.Refused.TheVariants as refused
use Rattle.processor_steps.specs.Processors.{ProcessorView, state_of, takes_memory}

-- the machine: the accepted program with its certificate, what the events changed, and the events
pub record MachineView : Type 0 where
  pub accepted : Checked
  pub processor : ProcessorView
  pub history : List Event

-- what every machine keeps: it is the replay of its history, on at least one unit (at most 16 is what
-- its queue keeps)
pub record IsMachine (m : MachineView) : Type 0 where
  pub some_unit : 0 < m.processor.queue.capacity
  pub replay : Replays m.accepted.program m.processor.queue.capacity m.history (state_of m.processor)
  pub room : length m.history ≤ most_events
  pub fixed : byte_of m.processor.world.contents.fixed ≡ byte_of m.accepted.program.fixed

-- a machine as the model's state, and how many units it has
abbrev pub state : MachineView → State
state m = state_of m.processor

abbrev pub units_of : MachineView → ℕ
units_of m = m.processor.queue.capacity

abbrev pub answer_to : MachineView → Event → Result (Unit {0}) Refused
answer_to m e = answer m.accepted.program (units_of m) (state m) (length m.history) e

-- the answer of the model, or, for an event that takes memory, `OutOfMemory` where the model answers Ok
abbrev pub IsAnswered : MachineView → Event → Result (Unit {0}) Refused → Type 0
IsAnswered m e result =
    (result ≡ answer_to m e)
    ⊎ ((takes_memory e ≡ true) × (result ≡ Err refused.OutOfMemory) × (answer_to m e ≡ Ok tt))

-- a machine after an event: the next state by the machine step, and the event appended to the history
pub record Applies (old : MachineView) (e : Event) (new : MachineView) : Type 0 where
  pub next : Next old.accepted.program (units_of old) (state old) e (state new)
  pub history : new.history ≡ old.history ++ e ∷ []

-- the program, its certificate and the number of units stay
pub record SameRing (old new : MachineView) : Type 0 where
  pub accepted : new.accepted ≡ old.accepted
  pub units : units_of new ≡ units_of old

-- a call for an event while the run continues: the answer, and what it leaves (for private functions alone)
pub record Tries (old : MachineView) (e : Event) (result : Result (Unit {0}) Refused) (new : MachineView) : Type 0 where
  pub answer : IsAnswered old e result
  pub ok : OnOk result (Applies old e new)
  pub err : OnErr result (new ≡ old)
  pub kept : SameRing old new
