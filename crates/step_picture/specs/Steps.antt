-- In which step an event of a history comes, from 1. In a run in steps each unit does at most one event in a step,
-- the head last, and the head always does one: so an event at position 0 ends a step.
use Rattle.std.specs.Prelude.{ℕ, ◌+◌, ◌-◌, List, [], ◌∷◌, length, if◌then◌else◌}
use Rattle.machine_model.specs.declared.event.Event.{Event}
use Rattle.machine_model.specs.HeadEvent.{active_after}
use Rattle.task_lives.specs.declared.life.Life.{Life}
use Rattle.unit_waits.specs.Waits.{ends_step}
use Rattle.run_picture.specs.Meanings.{column_at}

-- the step after an event of this step, where `active` units are at work
abbrev pub step_after : (active step : ℕ) → Event → ℕ
step_after active step e = if ends_step active e then step + 1 else step

-- the steps of some events, before which `active` units are at work; the first one comes in this step
abbrev pub steps_from : (active step : ℕ) → List Event → List ℕ
steps_from active step [] = []
steps_from active step (e ∷ es) = step ∷ steps_from (active_after active e) (step_after active step e) es

abbrev pub steps_of : List Event → List ℕ
steps_of history = steps_from 0 1 history

-- how many steps there are: the last event comes in the last one
abbrev pub count_of : (steps : List ℕ) → ℕ
count_of steps = column_at steps (length steps - 1)

-- a life by its first and last step, numbered from 0, in place of its events
abbrev pub in_steps : (steps : List ℕ) → Life → Life
in_steps steps life = record life { first = column_at steps life.first - 1; last = column_at steps life.last - 1 }
