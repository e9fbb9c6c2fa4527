-- The synchronous schedule: the machine advances in steps, and in a step each unit does at most one
-- event. The units take their turns from the last to the head. So the units after a unit see what it
-- does in a step from the next step on: in one step a register moves at most one unit further. The
-- schedule shows how far the marks let tasks overlap; it is no model of a processor's time, and has no
-- latencies and no caches.
use Rattle.std.specs.Prelude.{◌≡◌, ℕ, zero, suc, ◌<◌, List, [], ◌∷◌, ◌++◌, Bool, true, false, ◌&&◌, nat_lt, if◌then◌else◌, length, map, Option, Some, None}
use Rattle.task_descriptor.specs.Listing.{Listing}
use Rattle.machine_model.specs.Machine.{State, opening}
use Rattle.machine_model.specs.Answer.{is_running, after}
use Rattle.machine_model.specs.HeadEvent.{head_event}
use Rattle.machine_model.specs.declared.event.Event.{Event}
use Rattle.machine_model.specs.declared.event.Event.TheVariants.{Exec, Transfer, Drain, Squash}
use Rattle.sequencer.specs.Choices.{choices_of, choice_of}
use Rattle.unit_turns.specs.FirstAllowed.{registers, first_allowed}
use Rattle.unit_turns.specs.declared.predictor.Predictor.{Predictor}
use Rattle.unit_turns.specs.Predictions.{answer_for, asked}

-- a run in progress: the machine's state, the events so far, and the predictor
pub record Course : Type 0 where
  pub state : State
  pub events : List Event
  pub predictor : Predictor

abbrev pub beginning : Listing → Predictor → Course
beginning p predictor = record { state = opening p; events = []; predictor = predictor }

-- whether the run continues: the machine has not ended, and the budget is not used up
abbrev pub goes_on : (budget : ℕ) → State → (count : ℕ) → Bool
goes_on budget s count = is_running s.outcome && nat_lt count budget

-- an event is done, where there is one
abbrev pub with_event : Listing → Course → Option Event → Course
with_event p c None = c
with_event p c (Some e) = record c { state = after p c.state e; events = c.events ++ e ∷ [] }

-- A unit at work after the head: it squashes what is wrong after it, else executes, else takes a
-- register, else sends one, the least register first.

abbrev pub tries : (k : ℕ) → List Event
tries k = Squash k ∷ Exec k ∷ map (Transfer k) registers ++ map (Drain k) registers

-- The free unit after the tail: it takes the task that may follow. After a tail that has not stopped the
-- predictor is asked which.

abbrev pub with_targets : Listing → Course → (targets : List ℕ) → Course
with_targets p c [] = with_event p c (choice_of p c.state 0)
with_targets p c (t ∷ ts) =
    with_event p (record c { predictor = asked c.predictor }) (choice_of p c.state (answer_for c.predictor (t ∷ ts)))

abbrev pub with_task : Listing → Course → Course
with_task p c = with_targets p c (choices_of p c.state)

-- The turn of the unit at a position. The head does the event that it is ready for: there always is one, on
-- an empty queue the Assign of the task at the next address.
abbrev pub turn_of : Listing → (units k : ℕ) → Course → Course
turn_of p units zero c = with_event p c (head_event p c.state)
turn_of p units (suc k) c =
    if nat_lt (suc k) (length c.state.queue) then with_event p c (first_allowed p units c.state (tries (suc k)))
    else if nat_lt k (length c.state.queue) then with_task p c
    else c

abbrev pub turn : Listing → (units budget k : ℕ) → Course → Course
turn p units budget k c = if goes_on budget c.state (length c.events) then turn_of p units k c else c

-- the turns of the first n positions, that of the head last
abbrev pub turns : Listing → (units budget n : ℕ) → Course → Course
turns p units budget zero c = c
turns p units budget (suc k) c = turns p units budget k (turn p units budget k c)

abbrev pub step : Listing → (units budget : ℕ) → Course → Course
step p units budget c = turns p units budget units c

abbrev pub after_steps : Listing → (units budget n : ℕ) → Course → Course
after_steps p units budget zero c = c
after_steps p units budget (suc n) c = step p units budget (after_steps p units budget n c)

-- the run took this many steps: it continues before each of them, and not after the last
pub record Takes (p : Listing) (units budget : ℕ) (c : Course) (steps : ℕ) : Type 0 where
  pub went_on : (n : ℕ) → n < steps → goes_on budget (after_steps p units budget n c).state (length (after_steps p units budget n c).events) ≡ true
  pub is_over : goes_on budget (after_steps p units budget steps c).state (length (after_steps p units budget steps c).events) ≡ false
