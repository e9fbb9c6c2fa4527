-- What a picture of a run in steps is of.
use Rattle.std.specs.Prelude.{◌≡◌, ◌≤◌, ◌%◌, ℕ, List, flat_map, map}
use Rattle.std.specs.List.{range_with_len}
use Rattle.task_descriptor.specs.Listing.{Listing}
use Rattle.machine_model.specs.declared.event.Event.{Event}
use Rattle.machine_model.specs.declared.event.Standing.{Standing}
use Rattle.task_lives.specs.Lives.{lives_of}
use Rattle.task_lives.specs.Tallies.{tally_of}
use Rattle.unit_waits.specs.Waits.{waits}
use Rattle.run_picture.specs.declared.chart.Chart.{Chart}
use Rattle.run_picture.specs.declared.shape.Counted.TheVariants.{Steps}
use Rattle.run_picture.specs.declared.shape.Wait.{Wait}
use Rattle.step_picture.specs.Steps.{count_of, in_steps, steps_of}
use Rattle.step_picture.specs.Strips.{each_step, waits_on}

-- step by step they are the waits of the history, unit by unit
abbrev pub AreWaits : Listing → (units : ℕ) → List Event → List Wait → Type 0
AreWaits p units history strips = flat_map each_step strips ≡ flat_map (waits_on (waits p units history)) (range_with_len 0 units)

-- each event comes in the column of its step; up to 2,000 steps have their waits
pub record IsChartOfSteps (p : Listing) (units : ℕ) (stands : Standing) (history : List Event) (c : Chart) : Type 0 where
  pub counted : c.axis.counted ≡ Steps
  pub ring : c.axis.units ≡ units
  pub before : c.axis.before ≡ 0
  pub count : c.axis.count ≡ count_of (steps_of history)
  pub columns : c.columns.items ≡ steps_of history
  pub retired : c.retired ≡ 0
  pub events : c.events.items ≡ history
  pub lives : c.lives.items ≡ map (in_steps (steps_of history)) (lives_of units history)
  pub tally : c.tally ≡ tally_of (lives_of units history)
  pub head : c.head ≡ (tally_of (lives_of units history)).retired % units
  pub standing : c.standing ≡ stands
  pub waits : count_of (steps_of history) ≤ 2000 → AreWaits p units history c.waits.items
