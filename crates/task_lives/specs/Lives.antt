-- The life of a task: it begins where an Assign gives the task to a unit, continues while the unit
-- moves towards the head of the queue, and ends where the task retires, is squashed or is dropped. Each
-- Assign of a history begins one.
use Rattle.std.specs.Prelude.{ℕ, zero, suc, ◌+◌, ◌<◌, ◌≤◌, List, [], ◌∷◌, ◌++◌, nat_eq, nat_lt, if◌then◌else◌, Option, Some, None}
use Rattle.std.specs.Option.{option_map_or}
use Rattle.machine_model.specs.HeadEvent.{unit_of, retired_after, active_after}
use Rattle.machine_model.specs.declared.event.Event.{Event}
use Rattle.machine_model.specs.declared.event.Event.TheVariants.{Assign, Exec, Squash, Retire, Drop}
use Rattle.task_lives.specs.declared.life.Ending.{Ending}
use Rattle.task_lives.specs.declared.life.Ending.TheVariants.{Retired, Squashed, Dropped, Unfinished}
use Rattle.task_lives.specs.declared.life.Life.{Life}

-- one position nearer to the head; the head itself leaves the queue
abbrev pub nearer : ℕ → Option ℕ
nearer zero = None
nearer (suc k) = Some k

-- where in the queue the unit at position k is after an event: nowhere, if the event ends its task
abbrev pub position_after : (k : ℕ) → Event → Option ℕ
position_after k Retire = nearer k
position_after k (Squash j) = if nat_lt j k then None else Some k
position_after k (Drop j) = if nat_lt k j then Some k else None
position_after k _ = Some k

-- how an event ends a task, if it does
abbrev pub ending_by : Event → Ending
ending_by (Squash j) = Squashed
ending_by (Drop j) = Dropped
ending_by _ = Retired

-- how many instructions the unit at position k executes in an event
abbrev pub executed_at : (k : ℕ) → Event → ℕ
executed_at k (Exec j) = if nat_eq j k then 1 else 0
executed_at k _ = 0

-- how a task fares: how many events it sees, with the one that ends it; how many instructions it
-- executes; and how it ends
pub record Course : Type 0 where
  pub events : ℕ
  pub executed : ℕ
  pub ending : Ending

-- a course with one more event before it, in which `executed` instructions are executed
abbrev pub after_one : (executed : ℕ) → Course → Course
after_one executed c = record { events = suc c.events; executed = executed + c.executed; ending = c.ending }

-- how the task of the unit at position k fares over the events that come
abbrev pub course : (k : ℕ) → List Event → Course
course k [] = record { events = 0; executed = 0; ending = Unfinished }
course k (e ∷ es) =
    option_map_or (λ j. after_one (executed_at k e) (course j es))
    (position_after k e)
    (record { events = 1; executed = 0; ending = ending_by e })

-- the life that an Assign begins: it is event number `first`, before which `retired` tasks have retired; the
-- task's unit comes after the `active` units at work, in the queue and round the ring
abbrev pub life_of : (units retired active first task : ℕ) → Course → Life
life_of units retired active first task c = record {
  task = task;
  unit = unit_of units retired active (Assign task);
  first = first;
  last = first + c.events;
  executed = c.executed;
  ending = c.ending;
}

-- the lives that an event begins, with the events after it
abbrev pub begun : (units retired active first : ℕ) → Event → List Event → List Life
begun units retired active first (Assign task) behind = life_of units retired active first task (course active behind) ∷ []
begun units retired active first _ behind = []

-- the lives that begin in some events, the first of which has this number
abbrev pub lives_from : (units retired active first : ℕ) → List Event → List Life
lives_from units retired active first [] = []
lives_from units retired active first (e ∷ es) =
    begun units retired active first e es
    ++ lives_from units (retired_after retired e) (active_after active e) (suc first) es

-- the lives of a history, in the order in which they begin
abbrev pub lives_of : (units : ℕ) → List Event → List Life
lives_of units history = lives_from units 0 0 0 history

-- an Exec is one of a unit at work, and a Squash or a Drop cuts the queue where there are units
abbrev pub Fits : (active : ℕ) → Event → Type 0
Fits active (Exec k) = k < active
Fits active (Squash k) = k < active
Fits active (Drop k) = k ≤ active
Fits active _ = Unit {0}

-- each fits where it comes, with `active` units at work at first; every history of a machine does so with none
abbrev pub AllFit : (active : ℕ) → List Event → Type 0
AllFit active [] = Unit {0}
AllFit active (e ∷ es) = Fits active e × AllFit (active_after active e) es
