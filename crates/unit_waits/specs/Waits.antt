-- Who waits in the steps of a history. In a run in steps each unit does at most one event in a step, the head last,
-- and the head always does one: so an event at position 0 ends a step.
use Rattle.std.specs.Prelude.{ℕ, suc, List, [], ◌∷◌, ◌++◌, Bool, ◌&&◌, nat_eq, nat_le, if◌then◌else◌, length, drop, filter}
use Rattle.std.specs.List.{fold, list_any}
use Rattle.task_descriptor.specs.Listing.{Listing}
use Rattle.machine_model.specs.Machine.{Active, State, opening}
use Rattle.machine_model.specs.Answer.{after}
use Rattle.machine_model.specs.HeadEvent.{position_of}
use Rattle.machine_model.specs.declared.event.Event.{Event}
use Rattle.unit_waits.specs.declared.waiting.Waiting.{Waiting}
use Rattle.unit_waits.specs.Reasons.{unit_at, reason_of}

-- the event ends a step that began with `active` units at work
abbrev pub ends_step : (active : ℕ) → Event → Bool
ends_step active e = nat_eq (position_of active e) 0

-- the unit at a position does one of the events of a step
abbrev pub acts : (active k : ℕ) → List Event → Bool
acts active k events = list_any (λ e. nat_eq (position_of active e) k) events

-- The waits in a step of this number: of each unit after the head that does none of its events, by the state
-- with which the step begins

abbrev pub waiting : Listing → (units step : ℕ) → State → (k : ℕ) → Active → Waiting
waiting p units step s k u = record {
  step = step;
  unit = unit_at units s k;
  task = u.task;
  place = u.place;
  reason = reason_of p units s k u;
}

abbrev pub waits_at : Listing → (units step : ℕ) → State → List Event → (k : ℕ) → Active → List Waiting
waits_at p units step s events k u =
    if acts (length s.queue) k events then [] else waiting p units step s k u ∷ []

-- of units, the first of which is at position k
abbrev pub waits_of : Listing → (units step : ℕ) → State → List Event → (k : ℕ) → List Active → List Waiting
waits_of p units step s events k [] = []
waits_of p units step s events k (u ∷ us) =
    waits_at p units step s events k u ++ waits_of p units step s events (suc k) us

abbrev pub waits_in : Listing → (units step : ℕ) → State → List Event → List Waiting
waits_in p units step s events = waits_of p units step s events 1 (drop 1 s.queue)

-- what some events leave
abbrev pub after_all : Listing → State → List Event → State
after_all p s events = fold (after p) s events

-- the waits in the step that began in state s and has had some events so far, and in the later ones; a step that
-- the history does not end does not count
abbrev pub waits_from : Listing → (units step : ℕ) → State → (begun : List Event) → List Event → List Waiting
waits_from p units step s begun [] = []
waits_from p units step s begun (e ∷ es) =
    if ends_step (length s.queue) e
    then waits_in p units step s (begun ++ e ∷ []) ++ waits_from p units (suc step) (after_all p s (begun ++ e ∷ [])) [] es
    else waits_from p units step s (begun ++ e ∷ []) es

-- the waits of a history, step after step, and within a step from the head back
abbrev pub waits : Listing → (units : ℕ) → (history : List Event) → List Waiting
waits p units history = waits_from p units 1 (opening p) [] history

-- the waits in the steps from the number `first` to `last`

abbrev pub is_between : (first last step : ℕ) → Bool
is_between first last step = nat_le first step && nat_le step last

abbrev pub waits_between : Listing → (units first last : ℕ) → (history : List Event) → List Waiting
waits_between p units first last history = filter (λ w. is_between first last w.step) (waits p units history)
