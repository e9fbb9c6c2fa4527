-- What a worker does in a hold of the lock, and at which pace it goes on: one turn after another, each of the first of
-- its units that does not wait. Everywhere `was_asked` says that a machine was asked for an event and answered this.
use Rattle.std.specs.Prelude.{◌≡◌, ℕ, zero, suc, ◌+◌, ◌<◌, ◌≤◌, ◌⊎◌, length, true, false, Result, Err, Option, Some, None}
use Rattle.machine_model.specs.declared.event.Event.{Event}
use Rattle.machine_model.specs.declared.event.Event.TheVariants.{Exec}
use Rattle.machine_model.specs.declared.event.Refused.{Refused}
use Rattle.sequencer.specs.Machines.{MachineView, state, SameRing, Applies}
use Rattle.sequencer.specs.Rings.{unit_for}
use Rattle.sequencer.specs.Choices.{choice_of}
use Rattle.unit_turns.specs.Turns.{turn_of}
use Rattle.unit_turns.specs.declared.turn.Turn.{Turn}
use Rattle.unit_turns.specs.declared.turn.Turn.TheVariants.{Apply, Choose, Burst, Wait}
use Rattle.threaded_runner.specs.Shares.{IsFirst}
use Rattle.threaded_runner.specs.Paces.{after_single, is_held, next_task, pace_of}
use Rattle.threaded_runner.specs.Desks.{DeskView, SameNotes}
use Rattle.threaded_runner.specs.declared.next.Then.{Then}
use Rattle.threaded_runner.specs.declared.next.Then.TheVariants.{GoOn}
use Rattle.threaded_runner.specs.Holds.{RunsHead, TakesTurns}
use Rattle.threaded_runner.specs.Workers.{DoesEvent, GivesUp, IsNext, StopsRun, WorkerView, is_assign, with_pace}

-- An event was asked for and refused, whereupon its unit gives up its task, or the head the run. An event that a turn
-- names is refused for want of memory alone.
abbrev pub GaveUp : (MachineView → Event → Result (Unit {0}) Refused → Type 0) → WorkerView → (unit : ℕ) → Event → (old : DeskView) → WorkerView → (new : DeskView) → Type 0
GaveUp was_asked w unit e old w' new =
    (why : Refused) × was_asked old.machine e (Err why) × (GivesUp w unit old w' new ⊎ StopsRun w unit old w' new)

-- a turn that names an event: the event is applied, or given up; a unit that is held back takes no task
abbrev pub AppliesNamed : (MachineView → Event → Result (Unit {0}) Refused → Type 0) → WorkerView → (unit : ℕ) → Event → (old : DeskView) → WorkerView → (new : DeskView) → Type 0
AppliesNamed was_asked w unit e old w' new =
    (is_assign e ≡ true → is_held w.paces old.machine unit ≡ false)
    × (DoesEvent w unit e old w' new ⊎ GaveUp was_asked w unit e old w' new)

-- a turn to choose: a unit that is not held back takes the task that some answer of the predictor chooses
pub record TakesChosen (w : WorkerView) (unit : ℕ) (old : DeskView) (w' : WorkerView) (new : DeskView) : Type 0 where
  pub is_free : is_held w.paces old.machine unit ≡ false
  pub answer : ℕ
  pub event : Event
  pub is_chosen : choice_of old.machine.accepted.program (state old.machine) answer ≡ Some event
  pub applies : Applies old.machine event new.machine
  pub same_ring : SameRing old.machine new.machine
  pub same_notes : SameNotes old new
  pub paced : w' ≡ with_pace w unit (next_task (pace_of w.paces unit))

-- a unit executes under the lock: the head this many instructions, another unit one
abbrev pub Executes : MachineView → (unit steps : ℕ) → MachineView → Type 0
Executes old unit steps new =
    ((unit_for old (Exec 0) ≡ unit) × RunsHead old steps new)
    ⊎ ((steps ≡ 1) × ((k : ℕ) × (unit_for old (Exec k) ≡ unit) × Applies old (Exec k) new × SameRing old new))

-- a turn for a burst, at a pace of single instructions: some of them are executed; where the first is refused the unit
-- gives up
pub record ExecutesSingly (was_asked : MachineView → Event → Result (Unit {0}) Refused → Type 0) (w : WorkerView) (unit : ℕ) (old : DeskView) (w' : WorkerView) (new : DeskView) : Type 0 where
  pub steps : ℕ
  pub some_single : 0 < (pace_of w.paces unit).single
  pub few : steps ≤ (pace_of w.paces unit).single
  pub executes : ((0 < steps) × Executes old.machine unit steps new.machine × SameNotes old new × (w' ≡ with_pace w unit (after_single steps (pace_of w.paces unit))))
      ⊎ ((steps ≡ 0) × ((k : ℕ) × (mid : DeskView) × (unit_for old.machine (Exec k) ≡ unit) × (mid.machine ≡ old.machine) × SameNotes old mid
      × GaveUp was_asked (with_pace w unit (after_single steps (pace_of w.paces unit))) unit (Exec k) mid w' new))

abbrev pub DoesTurn : (MachineView → Event → Result (Unit {0}) Refused → Type 0) → WorkerView → (unit : ℕ) → Turn → (old : DeskView) → WorkerView → (new : DeskView) → Type 0
DoesTurn was_asked w unit (Apply e) old w' new = AppliesNamed was_asked w unit e old w' new
DoesTurn was_asked w unit Choose old w' new = TakesChosen w unit old w' new
DoesTurn was_asked w unit Burst old w' new = ExecutesSingly was_asked w unit old w' new
DoesTurn was_asked w unit Wait old w' new = ⊥

-- one turn, of the first of the worker's units that does not wait
abbrev pub TakesTurn : (MachineView → Event → Result (Unit {0}) Refused → Type 0) → WorkerView → (old : DeskView) → WorkerView → (new : DeskView) → Type 0
TakesTurn was_asked w old w' new =
    (unit : ℕ) × IsFirst old.machine w.share unit × (length old.machine.history < w.budget) × DoesTurn was_asked w unit (turn_of old.machine unit) old w' new

-- this many turns, one after another
abbrev pub HoldsFor : (MachineView → Event → Result (Unit {0}) Refused → Type 0) → (turns : ℕ) → WorkerView → (old : DeskView) → WorkerView → (new : DeskView) → Type 0
HoldsFor was_asked zero w old w' new = (w' ≡ w) × (new ≡ old)
HoldsFor was_asked (suc n) w old w' new =
    (mid : WorkerView) × (desk : DeskView) × HoldsFor was_asked n w old mid desk × TakesTurn was_asked mid desk w' new

-- as many turns as a hold may have
abbrev pub HoldsLong : (MachineView → Event → Result (Unit {0}) Refused → Type 0) → WorkerView → (old : DeskView) → WorkerView → (new : DeskView) → Type 0
HoldsLong was_asked w old w' new = (turns : ℕ) × (turns ≡ 64) × HoldsFor was_asked turns w old w' new

abbrev pub Holds : (MachineView → Event → Result (Unit {0}) Refused → Type 0) → WorkerView → (old : DeskView) → WorkerView → (new : DeskView) → Type 0
Holds was_asked w old w' new = (turns : ℕ) × HoldsFor was_asked turns w old w' new

-- a turn was taken; or nothing has changed, and the worker is to let go of the lock
abbrev pub IsTurnTaken : (MachineView → Event → Result (Unit {0}) Refused → Type 0) → WorkerView → (old : DeskView) → WorkerView → (new : DeskView) → Option Then → Type 0
IsTurnTaken was_asked w old w' new None = TakesTurns w.share 1 old new × TakesTurn was_asked w old w' new
IsTurnTaken was_asked w old w' new (Some next) = (w' ≡ w) × (new ≡ old) × IsNext w' new next × (next ≡ GoOn → ⊥)

-- In place, where one worker serves all units.

-- the turn of the head's unit names an event, which is applied, or given up
abbrev pub AppliesAtHead : (MachineView → Event → Result (Unit {0}) Refused → Type 0) → WorkerView → (old : DeskView) → WorkerView → (new : DeskView) → Type 0
AppliesAtHead was_asked w old w' new =
    (e : Event) × (turn_of old.machine (unit_for old.machine (Exec 0)) ≡ Apply e) × (length old.machine.history < w.budget)
    × (DoesEvent w (unit_for old.machine (Exec 0)) e old w' new ⊎ GaveUp was_asked w (unit_for old.machine (Exec 0)) e old w' new)

-- the head executes this many instructions
abbrev pub ExecutesAtHead : (steps : ℕ) → (old new : DeskView) → Type 0
ExecutesAtHead steps old new = RunsHead old.machine steps new.machine × SameNotes old new

-- this often: instructions of the head, together this many, and then an event that its unit's turn names
abbrev pub GoesInPlaceFor : (MachineView → Event → Result (Unit {0}) Refused → Type 0) → (events : ℕ) → WorkerView → (steps : ℕ) → (old : DeskView) → WorkerView → (new : DeskView) → Type 0
GoesInPlaceFor was_asked zero w steps old w' new = (steps ≡ 0) × (w' ≡ w) × (new ≡ old)
GoesInPlaceFor was_asked (suc n) w steps old w' new =
    (mid : WorkerView) × (desk : DeskView) × (ran : DeskView) × (before : ℕ) × (more : ℕ) × (steps ≡ before + more)
    × GoesInPlaceFor was_asked n w before old mid desk × ExecutesAtHead more desk ran × AppliesAtHead was_asked mid ran w' new

-- so often, and then instructions of the head: together this many
abbrev pub GoesInPlace : (MachineView → Event → Result (Unit {0}) Refused → Type 0) → WorkerView → (steps : ℕ) → (old : DeskView) → WorkerView → (new : DeskView) → Type 0
GoesInPlace was_asked w steps old w' new =
    (events : ℕ) × (desk : DeskView) × (before : ℕ) × (more : ℕ) × (steps ≡ before + more)
    × GoesInPlaceFor was_asked events w before old w' desk × ExecutesAtHead more desk new
