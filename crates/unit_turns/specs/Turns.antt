-- What the worker of a unit does next: one function of the machine and the unit's number on the ring.
use Rattle.std.specs.Prelude.{◌≡◌, ℕ, zero, suc, ◌+◌, ◌*◌, ◌-◌, ◌%◌, ◌<◌, List, [], ◌∷◌, ◌++◌, Bool, true, false, ◌&&◌, nat_lt, nat_eq, if◌then◌else◌, length, map, slice_get, is_none, Option, Some, None, Ok}
use Rattle.task_descriptor.specs.Listing.{Listing}
use Rattle.machine_model.specs.Machine.{Active, State}
use Rattle.machine_model.specs.Unit.{exec_refusal}
use Rattle.machine_model.specs.Answer.{most_events, is_running}
use Rattle.machine_model.specs.HeadEvent.{head_event}
use Rattle.machine_model.specs.Claims.{count_h}
use Rattle.machine_model.specs.declared.event.Event.{Event}
use Rattle.machine_model.specs.declared.event.Event.TheVariants.{Assign, Exec, Transfer, Drain, Squash, Drop}
use Rattle.sequencer.specs.Machines.{MachineView, state, units_of, answer_to}
use Rattle.sequencer.specs.Rings.{unit_for}
use Rattle.sequencer.specs.Choices.{choices_of, choice_of}
use Rattle.sequencer.specs.Histories.{executed_in}
use Rattle.unit_turns.specs.FirstAllowed.{registers, first_allowed}
use Rattle.unit_turns.specs.declared.turn.Turn.{Turn}
use Rattle.unit_turns.specs.declared.turn.Turn.TheVariants.{Apply, Choose, Burst, Wait}

-- The head does the event that it is ready for: on an empty queue the Assign of the task at the next address;
-- running, its next instruction, in a burst where this needs nothing but registers and read-only data;
-- stopped, Fault, Squash, Drain or Retire.

abbrev pub fits_burst : Listing → Option Active → Bool
fits_burst p None = false
fits_burst p (Some u) = is_none (exec_refusal p false u)

abbrev pub turn_of_head : (in_burst : Bool) → Option Event → Turn
turn_of_head in_burst None = Wait
turn_of_head in_burst (Some (Exec k)) = if in_burst then Burst else Apply (Exec k)
turn_of_head in_burst (Some e) = Apply e

-- A unit at work ahead of the head does the first of these events that the machine allows: it takes a register,
-- squashes the units after it where the next one begins elsewhere, sends a register, executes. It executes in
-- bursts alone, and not while it pauses.

abbrev pub own_events : (k : ℕ) → List Event
own_events k = map (Transfer k) registers ++ (Squash k ∷ (map (Drain k) registers ++ (Exec k ∷ [])))

-- Units ahead pause while, besides the h instructions of the retired tasks and of the head, more than
-- 65,536 + 2 h were executed: so no wrong path uses up the history.
abbrev pub pauses : State → (executed : ℕ) → Bool
pauses s executed = nat_lt (65536 + 2 * count_h s) (executed - count_h s)

abbrev pub turn_ahead : (pausing : Bool) → Option Event → Turn
turn_ahead pausing None = Wait
turn_ahead pausing (Some (Exec k)) = if pausing then Wait else Burst
turn_ahead pausing (Some e) = Apply e

-- The free unit after the tail takes the task that may follow; after a tail that has not stopped the
-- predictor chooses among its targets.

abbrev pub apply_or_wait : Option Event → Turn
apply_or_wait None = Wait
apply_or_wait (Some e) = Apply e

abbrev pub turn_of_free : Listing → State → (targets : List ℕ) → Turn
turn_of_free p s [] = apply_or_wait (choice_of p s 0)
turn_of_free p s (target ∷ targets) = Choose

-- the turn of the unit at a position, after the given number of instructions were executed
abbrev pub turn_at : Listing → (units : ℕ) → State → (executed k : ℕ) → Turn
turn_at p units s executed zero = turn_of_head (fits_burst p (slice_get s.queue 0)) (head_event p s)
turn_at p units s executed (suc k) =
    if nat_lt (suc k) (length s.queue) then turn_ahead (pauses s executed) (first_allowed p units s (own_events (suc k)))
    else if nat_eq (suc k) (length s.queue) then turn_of_free p s (choices_of p s)
    else Wait

-- the position of a unit, counted round the ring from the head, which has the number of retired tasks modulo the
-- number of units
abbrev pub position_of_unit : (units retired unit : ℕ) → ℕ
position_of_unit units retired unit = (unit + (units - retired % units)) % units

abbrev pub turn_at_position : MachineView → (k : ℕ) → Turn
turn_at_position m k = turn_at m.accepted.program (units_of m) (state m) (executed_in m.history) k

-- it waits once the run has ended or the history is full, and so does a number that no unit of the ring has
abbrev pub turn_of : MachineView → (unit : ℕ) → Turn
turn_of m unit =
    if is_running (state m).outcome && nat_lt (length m.history) most_events && nat_lt unit (units_of m)
    then turn_at_position m (position_of_unit (units_of m) (length (state m).commits) unit)
    else Wait

-- What follows from it

-- the event is allowed, the history has room for it, and it belongs to this unit of the ring
pub record IsOwn (m : MachineView) (unit : ℕ) (e : Event) : Type 0 where
  pub is_allowed : answer_to m e ≡ Ok tt
  pub belongs : unit_for m e ≡ unit

-- there are targets to choose from, the history has room, and this unit is the one that takes the next task
pub record MayChoose (m : MachineView) (unit : ℕ) : Type 0 where
  pub has_choices : choices_of m.accepted.program (state m) ≡ [] → ⊥
  pub has_room : length m.history < most_events
  pub is_free : length (state m).queue < units_of m
  pub is_next : (task : ℕ) → unit_for m (Assign task) ≡ unit

-- the unit's next instruction is its own, and needs nothing but its registers and read-only data
pub record MayBurst (m : MachineView) (unit : ℕ) : Type 0 where
  pub position : ℕ
  pub is_own : IsOwn m unit (Exec position)
  pub active : Active
  pub is_unit : slice_get (state m).queue position ≡ Some active
  pub runs_ahead : exec_refusal m.accepted.program false active ≡ None

abbrev pub IsTurn : MachineView → (unit : ℕ) → Turn → Type 0
IsTurn m unit (Apply e) = IsOwn m unit e
IsTurn m unit Choose = MayChoose m unit
IsTurn m unit Burst = MayBurst m unit
IsTurn m unit Wait = Unit {0}

-- What is allowed of a unit that waits: a Drop, or ahead of the head an Exec, where it pauses

abbrev pub MayWait : MachineView → Event → Type 0
MayWait m (Drop k) = Unit {0}
MayWait m (Exec (suc k)) = pauses (state m) (executed_in m.history) ≡ true
MayWait m e = ⊥

-- a Transfer or a Drain names a register
abbrev pub NamesRegister : Event → Type 0
NamesRegister (Transfer k r) = r < 34
NamesRegister (Drain k r) = r < 34
NamesRegister e = Unit {0}
