-- Which units a worker serves, and which of them continues first.
use Rattle.std.specs.Prelude.{◌≡◌, ℕ, ◌%◌, ◌<◌, ◌≤◌, length}
use Rattle.sequencer.specs.Machines.{MachineView, state, units_of}
use Rattle.unit_turns.specs.Turns.{turn_of, position_of_unit}
use Rattle.unit_turns.specs.declared.turn.Turn.TheVariants.{Wait}
use Rattle.threaded_runner.specs.declared.share.Share.{Share}

-- a share of a ring of the given number of units among the given number of workers, of whom there are at most 16
pub record IsShareOf (units workers : ℕ) (s : Share) : Type 0 where
  pub of_units : s.units ≡ units
  pub of_workers : s.workers ≡ workers
  pub is_worker : s.worker < workers
  pub few : workers ≤ 16

-- a worker serves the units of the ring whose number, modulo the number of workers, is its own
pub record IsServed (s : Share) (unit : ℕ) : Type 0 where
  pub on_ring : unit < s.units
  pub is_own : unit % s.workers ≡ s.worker

-- each of its units waits
abbrev pub AllWait : MachineView → Share → Type 0
AllWait m s = (unit : ℕ) → IsServed s unit → turn_of m unit ≡ Wait

-- how far a unit is from the head, round the ring
abbrev pub distance : MachineView → (unit : ℕ) → ℕ
distance m unit = position_of_unit (units_of m) (length (state m).commits) unit

-- the first of its units, in ring order from the head, that does not wait
pub record IsFirst (m : MachineView) (s : Share) (unit : ℕ) : Type 0 where
  pub is_served : IsServed s unit
  pub is_ready : turn_of m unit ≡ Wait → ⊥
  pub is_first : (other : ℕ) → IsServed s other → distance m other < distance m unit → turn_of m other ≡ Wait

-- each of its units from one number to below another waits (for private functions alone)
abbrev pub WaitBetween : MachineView → Share → (from to : ℕ) → Type 0
WaitBetween m s from to = (unit : ℕ) → from ≤ unit → unit < to → unit % s.workers ≡ s.worker → turn_of m unit ≡ Wait

-- the first of them that does not wait (for private functions alone)
pub record IsFirstBetween (m : MachineView) (s : Share) (from to unit : ℕ) : Type 0 where
  pub low : from ≤ unit
  pub high : unit < to
  pub is_own : unit % s.workers ≡ s.worker
  pub is_ready : turn_of m unit ≡ Wait → ⊥
  pub before : WaitBetween m s from unit
