-- A run as a timeline: a slice for the life of each task, and what happens at one time.
use Rattle.std.specs.Prelude.{◌≡◌, ℕ, ◌+◌, List, [], ◌∷◌, ◌++◌, map}
use Rattle.machine_model.specs.declared.event.Event.{Event}
use Rattle.machine_model.specs.declared.event.Event.TheVariants.{Transfer, Squash}
use Rattle.machine_model.specs.HeadEvent.{unit_of, retired_after}
use Rattle.run_picture.specs.Meanings.{unit_before}
use Rattle.task_lives.specs.declared.life.Life.{Life}
use Rattle.task_lives.specs.Lives.{lives_of}
use Rattle.event_trace.specs.declared.source.EventSource.{EventSource}
use Rattle.event_trace.specs.declared.timeline.Mark.{Mark}
use Rattle.event_trace.specs.declared.timeline.Mark.TheVariants as mark
use Rattle.event_trace.specs.declared.timeline.Slice.{Slice}
use Rattle.event_trace.specs.declared.timeline.Timeline.{Timeline}
use Rattle.event_trace.specs.Times.{time_at, times_of}

-- a life, from the time of the event that begins it to that of its last one
abbrev pub slice_of : (times : List ℕ) → Life → Slice
slice_of times life = record {
  life = life;
  begin = time_at times life.first;
  last = time_at times life.last;
}

-- what happens in an event of this number, at the unit to which it belongs: a register comes from the unit before it round
-- the ring; or the units after it are squashed
abbrev pub mark_at : (units number unit time : ℕ) → Event → List Mark
mark_at units number unit time (Transfer k r) = mark.Arrow number r (unit_before units unit) unit time ∷ []
mark_at units number unit time (Squash k) = mark.Squash unit time ∷ []
mark_at units number unit time _ = []

-- in some events, of which the first has this number, and before which `retired` tasks have retired
abbrev pub marks_from : (units : ℕ) → (times : List ℕ) → (retired number : ℕ) → List Event → List Mark
marks_from units times retired number [] = []
marks_from units times retired number (e ∷ es) =
    mark_at units number (unit_of units retired 0 e) (time_at times number) e
    ++ marks_from units times (retired_after retired e) (number + 1) es

abbrev pub marks_of : (units : ℕ) → (times : List ℕ) → List Event → List Mark
marks_of units times history = marks_from units times 0 0 history

-- the timeline of a history on `units` units
pub record IsTimelineOf (units : ℕ) (source : EventSource) (history : List Event) (t : Timeline) : Type 0 where
  pub slices : t.slices.items ≡ map (slice_of (times_of source history)) (lives_of units history)
  pub marks : t.marks.items ≡ marks_of units (times_of source history) history
