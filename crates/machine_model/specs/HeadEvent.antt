-- The event that the head is ready for: while the run continues there is always one. Also which
-- unit of the ring an event belongs to.
use Rattle.std.specs.Prelude.{ℕ, zero, suc, ◌+◌, ◌-◌, ◌%◌, List, [], ◌∷◌, not, nat_eq, if◌then◌else◌, drop, is_none, position, Option, Some, None}
use Rattle.std.specs.Option.{option_map}
use Rattle.mips_instructions.specs.Words.{address}
use Rattle.task_descriptor.specs.Listing.{Listing}
use Rattle.machine_model.specs.Machine.{Active, State, creates}
use Rattle.machine_model.specs.Step.{is_listed, next_begins}
use Rattle.machine_model.specs.Refusals.{least}
use Rattle.machine_model.specs.Answer.{is_running}
use Rattle.machine_model.specs.Claims.{by_head}
use Rattle.machine_model.specs.declared.event.Event.{Event}
use Rattle.machine_model.specs.declared.event.Event.TheVariants.{Assign, Exec, Transfer, Drain, Squash, Retire, Fault, Drop}
use Rattle.machine_model.specs.declared.event.Spot.{Spot}
use Rattle.machine_model.specs.declared.event.Spot.TheVariants.{Inside, Stopped}

-- the task that begins at an address
abbrev pub task_beginning : Listing → (at : ℕ) → Option ℕ
task_beginning p at = position (λ task. nat_eq (address task.entry) at) p.tasks

-- a stopped head whose exit is listed and where the next unit begins sends what it has not sent, the
-- least register first, and then retires
abbrev pub drain_or_retire : Option ℕ → Event
drain_or_retire (Some r) = Drain 0 r
drain_or_retire None = Retire

abbrev pub event_of_head : Listing → Active → List Active → Spot → Event
event_of_head p u us (Inside index) = Exec 0
event_of_head p u us (Stopped exit) =
    if not (is_listed p u.task exit) then Fault
    else if not (next_begins p us exit) then Squash 0
    else drain_or_retire (least (creates p u.task) (λ r. is_none (u.sent r)))

abbrev pub event_of_queue : Listing → (next : ℕ) → List Active → Option Event
event_of_queue p next [] = option_map Assign (task_beginning p next)
event_of_queue p next (u ∷ us) = Some (event_of_head p u us u.place)

abbrev pub head_event : Listing → State → Option Event
head_event p s = if is_running s.outcome then event_of_queue p s.next s.queue else None

-- by how much an event lets h grow: an instruction of the head by 1, a Retire by what the next unit
-- has executed ahead, any other event not at all
abbrev pub growth : State → Event → ℕ
growth s (Exec zero) = 1
growth s Retire = by_head (drop 1 s.queue)
growth s _ = 0

-- Which unit an event belongs to. The units are numbered round a ring; the head is at the number of
-- retired tasks, modulo their number.

-- the position that an event is at, in a queue of the given number of units: Assign is at the first position
-- after it, Retire and Fault are at the head
abbrev pub position_of : (active : ℕ) → Event → ℕ
position_of active (Assign t) = active
position_of active (Exec k) = k
position_of active (Transfer k r) = k
position_of active (Drain k r) = k
position_of active (Squash k) = k
position_of active Retire = 0
position_of active Fault = 0
position_of active (Drop k) = k

abbrev pub unit_of : (units retired active : ℕ) → Event → ℕ
unit_of units retired active e = (retired + position_of active e) % units

-- how many tasks have retired, and how many units are active, after an event
abbrev pub retired_after : (retired : ℕ) → Event → ℕ
retired_after retired Retire = suc retired
retired_after retired _ = retired

abbrev pub active_after : (active : ℕ) → Event → ℕ
active_after active (Assign t) = suc active
active_after active (Squash k) = suc k
active_after active Retire = active - 1
active_after active (Drop k) = k
active_after active _ = active
