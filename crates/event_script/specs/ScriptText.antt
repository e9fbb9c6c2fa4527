-- Writing the text of an event script: each event on a line of its own, as reading takes it.
use Rattle.std.specs.Prelude.{ℕ, ◌<◌, ◌≤◌, List, [], ◌∷◌, ◌++◌, length, flat_map, slice_get, Option, Some, None, codes}
use Rattle.std.specs.Fmt.{decimal}
use Rattle.task_descriptor.specs.Listing.{Listing}
use Rattle.task_descriptor.specs.declared.descriptor.Descriptor.{Descriptor}
use Rattle.machine_model.specs.declared.event.Event.{Event}
use Rattle.machine_model.specs.declared.event.Event.TheVariants.{Assign, Exec, Transfer, Drain, Squash, Retire, Fault, Drop}

abbrev pub name_at : Option Descriptor → List ℕ
name_at None = []
name_at (Some task) = task.name

-- an event, with the name of the task that it assigns; no name if there is no such task
abbrev pub event_text : Listing → Event → List ℕ
event_text p (Assign task) = codes "assign " ++ name_at (slice_get p.tasks task)
event_text p (Exec k) = codes "exec " ++ decimal k
event_text p (Transfer k r) = codes "transfer " ++ (decimal k ++ (codes " $" ++ decimal r))
event_text p (Drain k r) = codes "drain " ++ (decimal k ++ (codes " $" ++ decimal r))
event_text p (Squash k) = codes "squash " ++ decimal k
event_text p Retire = codes "retire"
event_text p Fault = codes "fault"
event_text p (Drop k) = codes "drop " ++ decimal k

abbrev pub line_text : Listing → Event → List ℕ
line_text p event = event_text p event ++ 10 ∷ []

-- the script of some events for a program
abbrev pub script_text : Listing → List Event → List ℕ
script_text p events = flat_map (line_text p) events

-- ---- which events a script can express

-- the task is one of the program's, and the position has at most three digits
abbrev pub IsTold : Listing → Event → Type 0
IsTold p (Assign task) = task < length p.tasks
IsTold p (Exec k) = k ≤ 999
IsTold p (Transfer k r) = k ≤ 999
IsTold p (Drain k r) = k ≤ 999
IsTold p (Squash k) = k ≤ 999
IsTold p Retire = Unit {0}
IsTold p Fault = Unit {0}
IsTold p (Drop k) = k ≤ 999

-- the register is one: the type of an event ensures this
abbrev pub NamesRegister : Event → Type 0
NamesRegister (Transfer k r) = r < 34
NamesRegister (Drain k r) = r < 34
NamesRegister _ = Unit {0}
