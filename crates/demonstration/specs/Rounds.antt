-- The runs that the search judges: in rounds, whose events are tried in a fixed order. An event that is tried happens
-- where the machine allows it, and else changes nothing.
use Rattle.std.specs.Prelude.{ℕ, zero, suc, ◌+◌, ◌-◌, nat_lt, if◌then◌else◌, List, [], ◌∷◌, ◌++◌, map, length, slice_get, Option, Some, None, Bool, true, false}
use Rattle.std.specs.List.{fold, range_with_len}
use Rattle.std.specs.Result.{is_ok}
use Rattle.task_descriptor.specs.Listing.{Listing}
use Rattle.machine_model.specs.Machine.{Active, State, opening}
use Rattle.machine_model.specs.Answer.{answer, after}
use Rattle.machine_model.specs.declared.event.Event.{Event}
use Rattle.machine_model.specs.declared.event.Event.TheVariants.{Assign, Exec, Transfer, Drain, Squash, Retire, Fault}
use Rattle.machine_model.specs.declared.event.Spot.{Spot}
use Rattle.machine_model.specs.declared.event.Spot.TheVariants.{Inside, Stopped}

-- the state that events leave, each of which is allowed where it comes
unfoldable pub state_after : Listing → List Event → State
state_after p events = fold (after p) (opening p) events

-- whether the machine allows an event after a run so far
unfoldable pub is_allowed : Listing → (units : ℕ) → (run : List Event) → Event → Bool
is_allowed p units run e = is_ok (answer p units (state_after p run) (length run) e)

-- an event is tried after a run so far
unfoldable pub tried : Listing → (units : ℕ) → (run : List Event) → Event → List Event
tried p units run e = if is_allowed p units run e then run ++ e ∷ [] else run

abbrev pub each_tried : Listing → (units : ℕ) → (run events : List Event) → List Event
each_tried p units run events = fold (tried p units) run events

-- a unit takes and sends a register
unfoldable pub register_tried : Listing → (units k : ℕ) → (run : List Event) → (r : ℕ) → List Event
register_tried p units k run r = tried p units (tried p units run (Transfer k r)) (Drain k r)

-- the registers, the least first
unfoldable pub registers : List ℕ
registers = range_with_len 0 34

-- what follows a unit is squashed, it takes and sends each register, and executes an instruction
unfoldable pub unit_tried : Listing → (units : ℕ) → (run : List Event) → (k : ℕ) → List Event
unit_tried p units run k = tried p units (fold (register_tried p units k) (tried p units run (Squash k)) registers) (Exec k)

-- each unit at work goes on
abbrev pub units_tried : Listing → (units : ℕ) → List Event → List Event
units_tried p units run = fold (unit_tried p units) run (range_with_len 0 (length (state_after p run).queue))

-- the tail, if there is one, has not stopped: what follows it is not known
abbrev pub is_inside : Spot → Bool
is_inside (Inside index) = true
is_inside (Stopped at) = false

abbrev pub is_open : Option Active → Bool
is_open None = false
is_open (Some tail) = is_inside tail.place

abbrev pub has_open_tail : State → Bool
has_open_tail s = is_open (slice_get s.queue (length s.queue - 1))

-- the first of `left` tasks that may begin does, from a number on
unfoldable pub first_begins : Listing → (units : ℕ) → (run : List Event) → (task left : ℕ) → List Event
first_begins p units run task zero = run
first_begins p units run task (suc left) =
    if is_allowed p units run (Assign task) then tried p units run (Assign task) else first_begins p units run (task + 1) left

-- a task that is guessed is tried
abbrev pub guess_tried : Listing → (units : ℕ) → (run : List Event) → Option ℕ → List Event
guess_tried p units run None = run
guess_tried p units run (Some task) = tried p units run (Assign task)

-- which place of the run the next task has, counted from 0
abbrev pub next_place : State → ℕ
next_place s = length s.commits + length s.queue

-- a task begins: where it is known that one follows the first that may, else the one that is guessed for its place
unfoldable pub begun : Listing → (units : ℕ) → (guesses : List ℕ) → (run : List Event) → List Event
begun p units guesses run =
    if has_open_tail (state_after p run)
    then guess_tried p units run (slice_get guesses (next_place (state_after p run)))
    else first_begins p units run 0 (length p.tasks)

-- the head retires, or the run ends there, each unit goes on, and a task begins
unfoldable pub round : Listing → (units : ℕ) → (guesses : List ℕ) → (run : List Event) → List Event
round p units guesses run = begun p units guesses (units_tried p units (tried p units (tried p units run Retire) Fault))

-- so many rounds, unless there are `steps` events or a round adds none
unfoldable pub rounds : Listing → (units : ℕ) → (guesses : List ℕ) → (steps count : ℕ) → (run : List Event) → List Event
rounds p units guesses steps zero run = run
rounds p units guesses steps (suc n) run =
    if nat_lt (length run) steps
    then (if nat_lt (length run) (length (round p units guesses run)) then rounds p units guesses steps n (round p units guesses run) else round p units guesses run)
    else run

-- the run of about `steps` events on so many units
abbrev pub run_of : Listing → (units : ℕ) → (guesses : List ℕ) → (steps : ℕ) → List Event
run_of p units guesses steps = rounds p units guesses steps steps []

-- the tasks of the run on two units in which none is guessed: these are the guesses
abbrev pub known_tasks : Listing → (steps : ℕ) → List ℕ
known_tasks p steps = map (λ commit. commit.task) (state_after p (run_of p 2 [] steps)).commits
