-- The time of an event, in microseconds from the beginning of the run: its number, or in a run in steps the number of its
-- step, both from 0.
use Rattle.std.specs.Prelude.{ℕ, ◌+◌, List, [], ◌∷◌, Bool, true, nat_eq, if◌then◌else◌, slice_get, unwrap_or}
use Rattle.machine_model.specs.declared.event.Event.{Event}
use Rattle.machine_model.specs.HeadEvent.{active_after, position_of}
use Rattle.event_trace.specs.declared.source.EventSource.{EventSource}
use Rattle.event_trace.specs.declared.source.EventSource.TheVariants.{Steps}

-- Whether the time goes on after an event, where `active` units are at work: after each one, or after each step. In a
-- run in steps each unit does at most one event in a step, the head last, and the head always does one; so an event
-- at position 0 ends a step.
abbrev pub ticks : EventSource → (active : ℕ) → Event → Bool
ticks Steps active e = nat_eq (position_of active e) 0
ticks other active e = true

abbrev pub time_after : EventSource → (active time : ℕ) → Event → ℕ
time_after source active time e = if ticks source active e then time + 1 else time

-- the times of some events, before which `active` units are at work; the first one has this time
abbrev pub times_from : EventSource → (active time : ℕ) → List Event → List ℕ
times_from source active time [] = []
times_from source active time (e ∷ es) = time ∷ times_from source (active_after active e) (time_after source active time e) es

abbrev pub times_of : EventSource → List Event → List ℕ
times_of source history = times_from source 0 0 history

-- the steps of the events of a run in steps; there are none of another
abbrev pub steps_of : EventSource → List Event → List ℕ
steps_of Steps history = times_of Steps history
steps_of other history = []

-- the time of the event of a number
abbrev pub time_at : (times : List ℕ) → (number : ℕ) → ℕ
time_at times number = unwrap_or (slice_get times number) 0
