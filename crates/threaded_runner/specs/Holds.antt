-- What a worker does is what `turn` names: each event of a hold of the lock is one that the turn of one of
-- its units names, in the machine in which it is applied.
use Rattle.std.specs.Prelude.{◌≡◌, ℕ, ◌≤◌, ◌⊎◌, List, [], ◌∷◌, zero, suc, length, true, Result, Some, Err}
use Rattle.machine_model.specs.declared.event.Event.{Event}
use Rattle.machine_model.specs.declared.event.Event.TheVariants.{Exec, Drop}
use Rattle.machine_model.specs.declared.event.Refused.{Refused}
use Rattle.processor_steps.specs.Processors.{takes_memory}
use Rattle.sequencer.specs.Machines.{MachineView, state, SameRing, Applies, IsAnswered}
use Rattle.sequencer.specs.Rings.{unit_for}
use Rattle.sequencer.specs.Choices.{choice_of}
use Rattle.unit_turns.specs.Turns.{turn_of}
use Rattle.unit_turns.specs.declared.turn.Turn.{Turn}
use Rattle.unit_turns.specs.declared.turn.Turn.TheVariants.{Apply, Choose, Burst, Wait}
use Rattle.threaded_runner.specs.declared.share.Share.{Share}
use Rattle.threaded_runner.specs.Shares.{IsServed}
use Rattle.threaded_runner.specs.Desks.{DeskView}

-- an instruction of a unit; and a unit's task that is given up
abbrev pub IsExecOf : MachineView → (unit : ℕ) → Event → Type 0
IsExecOf m unit e = (k : ℕ) × (e ≡ Exec k) × (unit_for m e ≡ unit)

abbrev pub IsDropOf : MachineView → (unit : ℕ) → Event → Type 0
IsDropOf m unit e = (k : ℕ) × (e ≡ Drop k) × (unit_for m e ≡ unit)

-- A unit with this turn does this event: the one that the turn names; the Assign of some target that may be
-- chosen; or an instruction in place of a burst. Where the event takes memory, the unit may give its task up.
abbrev pub IsNamed : MachineView → (unit : ℕ) → Turn → Event → Type 0
IsNamed m unit (Apply named) e = (e ≡ named) ⊎ ((takes_memory named ≡ true) × IsDropOf m unit e)
IsNamed m unit Choose e = (answer : ℕ) × (choice_of m.accepted.program (state m) answer ≡ Some e)
IsNamed m unit Burst e = IsExecOf m unit e ⊎ IsDropOf m unit e
IsNamed m unit Wait e = ⊥

-- one event of a unit of the share, as its turn names it
pub record Acts (s : Share) (old : MachineView) (e : Event) (new : MachineView) : Type 0 where
  pub unit : ℕ
  pub is_served : IsServed s unit
  pub is_named : IsNamed old unit (turn_of old unit) e
  pub applies : Applies old e new
  pub same_ring : SameRing old new

-- events of the share's units, one after another
abbrev pub GoesBy : Share → (old : MachineView) → List Event → (new : MachineView) → Type 0
GoesBy s old [] new = new ≡ old
GoesBy s old (e ∷ es) new = (mid : MachineView) × Acts s old e mid × GoesBy s mid es new

-- the given number of turns was taken, each by at least one event; or the run must stop for want of memory
abbrev pub TakesTurns : Share → (turns : ℕ) → (old new : DeskView) → Type 0
TakesTurns s turns old new =
    (es : List Event) × GoesBy s old.machine es new.machine × ((turns ≤ length es) ⊎ (new.is_stopped ≡ true))

-- an event was asked for and refused, by the machine step or for want of memory
abbrev pub IsStoppedAt : (MachineView → Event → Result (Unit {0}) Refused → Type 0) → MachineView → Event → Type 0
IsStoppedAt was_asked m e = (why : Refused) × IsAnswered m e (Err why) × was_asked m e (Err why)

-- the given number of instructions of the head, one after another (for private functions alone)
abbrev pub RunsHead : (old : MachineView) → (n : ℕ) → (new : MachineView) → Type 0
RunsHead old zero new = new ≡ old
RunsHead old (suc n) new = (mid : MachineView) × RunsHead old n mid × Applies mid (Exec 0) new × SameRing mid new
