-- Units that are lent, and bursts that are handed in.
use Rattle.std.specs.Prelude.{◌≡◌, ℕ, ◌+◌, ◌%◌, ◌<◌, ◌≤◌, ◌⊎◌, ◌++◌, length, replicate, slice_get, Some}
use Rattle.machine_model.specs.Machine.{Active}
use Rattle.machine_model.specs.Answer.{most_events}
use Rattle.machine_model.specs.Replay.{ReplaysFrom}
use Rattle.machine_model.specs.declared.event.Event.TheVariants.{Exec}
use Rattle.machine_model.specs.declared.event.Refused.{Refused}
use Rattle.machine_model.specs.declared.event.Refused.TheVariants as refused
use Rattle.machine_model.specs.declared.event.Spot.TheVariants.{Inside}
use Rattle.machine_model.specs.declared.event.Standing.TheVariants.{Running}
use Rattle.unit_core.specs.Units.{active_of}
use Rattle.unit_core.specs.Bursts.{BurstView, HasMore}
use Rattle.processor_steps.specs.Processors.{position_with}
use Rattle.sequencer.specs.Machines.{MachineView, state, units_of}

-- the unit with this number on the ring is at work as this active task, and has not stopped; the head
-- has the number of retired tasks, modulo the number of units, and those after it follow round the ring
pub record IsAtWork (m : MachineView) (number : ℕ) (u : Active) : Type 0 where
  pub position : ℕ
  pub is_number : (length (state m).commits + position) % units_of m ≡ number
  pub is_unit : slice_get (state m).queue position ≡ Some u
  pub index : ℕ
  pub is_inside : u.place ≡ Inside index

-- a burst with a step, made with this machine's program and certificate, and an active unit that is the
-- one that it was made on, its log in length, with at most more registers arrived
pub record IsFresh (m : MachineView) (b : BurstView) : Type 0 where
  pub has_step : 0 < b.steps
  pub is_own : b.accepted ≡ m.accepted
  pub position : ℕ
  pub unit : Active
  pub is_unit : slice_get (state m).queue position ≡ Some unit
  pub has_more : HasMore (active_of b.before) b.reads unit

-- what refuses a burst: the run has ended; or it is fresh and its steps don't fit into the history; or it
-- is fresh, its steps fit, and its reads find no room
abbrev pub IsRefusedBurst : MachineView → BurstView → Refused → Type 0
IsRefusedBurst m b why =
    ((why ≡ refused.Ended) × ((state m).outcome ≡ Running → ⊥))
    ⊎ ((why ≡ refused.Full) × ((state m).outcome ≡ Running) × IsFresh m b × (most_events < length m.history + b.steps))
    ⊎ ((why ≡ refused.OutOfMemory) × ((state m).outcome ≡ Running) × IsFresh m b × (length m.history + b.steps ≤ most_events))

-- a machine after a fresh burst: the unit with the burst's serial number, which is the one that it was
-- made on, executed once for each step, by the machine step, and exactly these events are appended to the
-- history
pub record Takes (old : MachineView) (b : BurstView) (new : MachineView) : Type 0 where
  pub fresh : IsFresh old b
  pub owner : position_with (state old).queue b.before.serial ≡ Some fresh.position
  pub events : ReplaysFrom old.accepted.program (units_of old) (state old) (replicate b.steps (Exec fresh.position)) (state new)
  pub history : new.history ≡ old.history ++ replicate b.steps (Exec fresh.position)
  pub fits : length new.history ≤ most_events
