-- A worker as contracts see it, and what it does once it lets go of the lock.
use Rattle.std.specs.Prelude.{◌≡◌, ℕ, ◌+◌, ◌-◌, ◌<◌, ◌≤◌, ◌⊎◌, List, Bool, min, nat_eq, if◌then◌else◌, length, slice_set, true, false, Option, Some, None, Result, Ok, Err}
use Rattle.machine_model.specs.declared.event.Event.{Event}
use Rattle.machine_model.specs.declared.event.Event.TheVariants.{Assign, Exec, Drop}
use Rattle.machine_model.specs.declared.event.Refused.{Refused}
use Rattle.machine_model.specs.declared.event.Refused.TheVariants as refused
use Rattle.machine_model.specs.declared.event.Standing.TheVariants as standing
use Rattle.unit_core.specs.Bursts.{BurstView}
use Rattle.sequencer.specs.Bursts.{IsFresh, IsRefusedBurst, Takes}
use Rattle.sequencer.specs.Machines.{MachineView, state, SameRing, Applies}
use Rattle.sequencer.specs.Rings.{unit_for}
use Rattle.unit_turns.specs.Turns.{turn_of}
use Rattle.unit_turns.specs.declared.turn.Turn.TheVariants as turns
use Rattle.threaded_runner.specs.declared.pace.Pace.{Pace}
use Rattle.threaded_runner.specs.declared.share.Share.{Share}
use Rattle.threaded_runner.specs.declared.next.NextBurst.{NextBurst}
use Rattle.threaded_runner.specs.declared.next.Then.{Then}
use Rattle.threaded_runner.specs.declared.next.Then.TheVariants.{Burst, BurstInPlace, Wait, GoOn, End}
use Rattle.threaded_runner.specs.Shares.{AllWait, IsFirst}
use Rattle.threaded_runner.specs.Paces.{pace_of, is_held, next_task, after_check_in}
use Rattle.threaded_runner.specs.Desks.{DeskView, IsDone, SameNotes, stopped}

-- which units the worker serves, the budget of the run, and the pace of each unit
pub record WorkerView : Type 0 where
  pub share : Share
  pub budget : ℕ
  pub paces : List Pace

-- a worker with another pace of a unit
abbrev pub with_pace : WorkerView → (unit : ℕ) → Pace → WorkerView
with_pace w unit pace = record w { paces = slice_set w.paces unit pace }

-- Want of memory for a unit: one that is at work ahead of the head is dropped, which is noted; at the head the run
-- must stop.

pub record GivesUp (w : WorkerView) (unit : ℕ) (old : DeskView) (w' : WorkerView) (new : DeskView) : Type 0 where
  pub position : ℕ
  pub is_ahead : 0 < position
  pub is_unit : unit_for old.machine (Exec position) ≡ unit
  pub drops : Applies old.machine (Drop position) new.machine
  pub same_ring : SameRing old.machine new.machine
  pub same_notes : SameNotes old new
  pub noted : w' ≡ with_pace w unit (record (pace_of w.paces unit) { dropped_at = Some (length (state old.machine).commits) })

pub record StopsRun (w : WorkerView) (unit : ℕ) (old : DeskView) (w' : WorkerView) (new : DeskView) : Type 0 where
  pub not_ahead : (unit_for old.machine (Exec 0) ≡ unit) ⊎ ((k : ℕ) → k < length (state old.machine).queue → unit_for old.machine (Exec k) ≡ unit → ⊥)
  pub stops : new ≡ stopped old
  pub same : w' ≡ w

abbrev pub is_assign : Event → Bool
is_assign (Assign task) = true
is_assign e = false

-- an event of a unit was applied; a unit that took a task begins anew (for private functions alone)
pub record DoesEvent (w : WorkerView) (unit : ℕ) (e : Event) (old : DeskView) (w' : WorkerView) (new : DeskView) : Type 0 where
  pub applies : Applies old.machine e new.machine
  pub same_ring : SameRing old.machine new.machine
  pub same_notes : SameNotes old new
  pub paced : w' ≡ (if is_assign e then with_pace w unit (next_task (pace_of w.paces unit)) else w)

-- the burst of a unit at a pace, where the budget leaves that much room: a worker that serves all units makes those
-- that are as short as a task's first in place, by up to 1,024 events
abbrev pub IsThenOf : Share → (unit : ℕ) → Pace → (room : ℕ) → Then → Type 0
IsThenOf s unit pace room (BurstInPlace next) = (s.workers ≡ 1) × (pace.most ≡ 64) × (next.unit ≡ unit) × (next.most ≡ min 1024 room)
IsThenOf s unit pace room (Burst next) = ((s.workers ≡ 1) × (pace.most ≡ 64) → ⊥) × (next.unit ≡ unit) × (next.most ≡ min pace.most room)
IsThenOf s unit pace room (Wait idle) = ⊥
IsThenOf s unit pace room GoOn = ⊥
IsThenOf s unit pace room End = ⊥

-- the unit's turn is a burst, for which the budget leaves room, and no instruction is to be executed singly
pub record IsBurst (w : WorkerView) (m : MachineView) (next : NextBurst) : Type 0 where
  pub is_first : IsFirst m w.share next.unit
  pub is_turn : turn_of m next.unit ≡ turns.Burst
  pub fits : next.most + length m.history ≤ w.budget
  pub no_single : (pace_of w.paces next.unit).single ≡ 0

-- how many events the budget leaves room for, at most as many as a burst may have
abbrev pub room_for : WorkerView → MachineView → ℕ
room_for w m = min (w.budget - length m.history) 65536

-- a worker has nothing to do: all its units wait, or the first of them that does not is held back
abbrev pub HasNothing : WorkerView → MachineView → Type 0
HasNothing w m = AllWait m w.share ⊎ ((unit : ℕ) × IsFirst m w.share unit × (is_held w.paces m unit ≡ true))

-- what a worker does next is what it found under the lock; it waits only where it has nothing to do, and ends only
-- where the run is over
abbrev pub IsNext : WorkerView → DeskView → Then → Type 0
IsNext w d (Burst next) = IsBurst w d.machine next × IsThenOf w.share next.unit (pace_of w.paces next.unit) (room_for w d.machine) (Burst next)
IsNext w d (BurstInPlace next) = IsBurst w d.machine next × IsThenOf w.share next.unit (pace_of w.paces next.unit) (room_for w d.machine) (BurstInPlace next)
IsNext w d (Wait idle) = (idle.worker ≡ w.share.worker) × HasNothing w d.machine
IsNext w d GoOn = Unit {0}
IsNext w d End = IsDone w.budget d

-- a worker of the same units, with the same budget
pub record IsSameWorker (w w' : WorkerView) : Type 0 where
  pub share : w'.share ≡ w.share
  pub budget : w'.budget ≡ w.budget

-- A burst is handed in: one that is fresh is taken over, with exactly its steps; a stale one changes nothing.

abbrev pub IsAnswerTo : MachineView → BurstView → Result ℕ Refused → MachineView → Type 0
IsAnswerTo old b (Ok events) new =
    ((state old).outcome ≡ standing.Running)
    × (((0 < events) × (events ≡ b.steps) × Takes old b new) ⊎ ((events ≡ 0) × (IsFresh old b → ⊥) × (new ≡ old)))
IsAnswerTo old b (Err why) new = (new ≡ old) × IsRefusedBurst old b why

pub record IsHandedIn (old : DeskView) (b : BurstView) (answer : Result ℕ Refused) (new : DeskView) : Type 0 where
  pub answered : IsAnswerTo old.machine b answer new.machine
  pub same_ring : SameRing old.machine new.machine
  pub same_notes : SameNotes old new

-- then a unit ahead of the head for which memory runs out gives up its task; any other continues at the pace after
-- this answer
abbrev pub FollowsUp : WorkerView → NextBurst → (steps : ℕ) → Result ℕ Refused → (old : DeskView) → WorkerView → (new : DeskView) → Type 0
FollowsUp w next steps answer old w' new =
    ((answer ≡ Err refused.OutOfMemory) × (unit_for old.machine (Exec 0) ≡ next.unit → ⊥)
    × (GivesUp w next.unit old w' new ⊎ StopsRun w next.unit old w' new))
    ⊎ (((answer ≡ Err refused.OutOfMemory → unit_for old.machine (Exec 0) ≡ next.unit))
    × (new ≡ old)
    × (w' ≡ with_pace w next.unit (after_check_in (nat_eq w.share.workers 1) next.most steps answer (pace_of w.paces next.unit))))
