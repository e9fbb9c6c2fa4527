-- What the search answers: events on at least one unit, no more of them than a machine allows, and what they show; or
-- that none of the runs that it judges shows anything.
use Rattle.std.specs.Prelude.{ℕ, ◌<◌, ◌≤◌, List, [], length, min, take, Option, Some, None}
use Rattle.task_descriptor.specs.Listing.{Listing}
use Rattle.machine_model.specs.Answer.{most_events}
use Rattle.machine_model.specs.declared.event.Event.{Event}
use Rattle.demonstration.specs.Rounds.{each_tried, known_tasks, run_of, state_after}
use Rattle.demonstration.specs.Shown.{IsShown, DoesNoHarm, ReadsRight, WordsRight}
use Rattle.demonstration.specs.declared.search.Demonstration.{Demonstration}

pub record IsDemonstration (p : Listing) (d : Demonstration) : Type 0 where
  pub some : 0 < d.units
  pub few : d.units ≤ 16
  pub room : length d.events.items ≤ most_events
  pub shown : IsShown p d.units d.events.items d.evidence

-- a run on one unit shows nothing, and its head has no wrong word after any of its events
pub record IsRightAlone (p : Listing) (run : List Event) : Type 0 where
  pub right : DoesNoHarm p (state_after p run)
  pub words : (count : ℕ) → count ≤ length run → WordsRight p (state_after p (each_tried p 1 [] (take count run)))

-- each run that is judged is right
pub record IsNoneFound (p : Listing) (most_units steps : ℕ) : Type 0 where
  -- on 2 units, on 3, and so on, where the tasks are guessed that follow one another where none is guessed
  pub guessed : (units : ℕ) → min most_units 2 ≤ units → units ≤ most_units → ReadsRight p (state_after p (run_of p units (known_tasks p steps) steps))
  -- on one unit, with no guess
  pub alone : IsRightAlone p (run_of p 1 [] steps)

abbrev pub IsSearched : Listing → (most_units steps : ℕ) → Option Demonstration → Type 0
IsSearched p most_units steps None = IsNoneFound p most_units steps
IsSearched p most_units steps (Some d) = IsDemonstration p d × (d.units ≤ most_units)
