-- What a picture is of, and what its shapes stand for.
use Rattle.std.specs.Prelude.{◌≡◌, ◌≤◌, ◌<◌, ◌+◌, ◌%◌, ℕ, [], ◌++◌, List, length, map, nat_le, if◌then◌else◌}
use Rattle.std.specs.List.{range_with_len}
use Rattle.machine_model.specs.Answer.{most_events}
use Rattle.machine_model.specs.declared.event.Event.{Event}
use Rattle.machine_model.specs.declared.event.Standing.{Standing}
use Rattle.task_lives.specs.Lives.{lives_of}
use Rattle.task_lives.specs.Tallies.{tally_of}
use Rattle.run_picture.specs.declared.chart.Chart.{Chart}
use Rattle.run_picture.specs.declared.shape.Counted.TheVariants.{Events}
use Rattle.run_picture.specs.declared.shape.Meaning.{Meaning}
use Rattle.run_picture.specs.declared.shape.Meaning.TheVariants.{OfWait}
use Rattle.run_picture.specs.Meanings.{heads_of, life_told, marks_from}
use Rattle.run_picture.specs.Stretches.{shares_told}

-- the lives, the waits, the heads and the events, one by one and in their orders; of more than 2,000 columns, the stretches
abbrev pub told : Chart → List Meaning
told c =
    if nat_le c.axis.count 2000
    then map (life_told c.axis.counted c.head c.standing) c.lives.items ++ (map OfWait c.waits.items
    ++ (heads_of c.axis c.columns.items c.retired c.events.items ++ marks_from c.axis c.columns.items c.retired 0 c.events.items))
    else shares_told c.axis c.columns.items c.events.items c.lives.items

-- a chart of the events of a history, each in a column of its own
pub record IsChartOfEvents (units : ℕ) (stands : Standing) (history : List Event) (c : Chart) : Type 0 where
  pub counted : c.axis.counted ≡ Events
  pub ring : c.axis.units ≡ units
  pub before : c.axis.before ≡ 0
  pub count : c.axis.count ≡ length history
  pub columns : c.columns.items ≡ range_with_len 1 (length history)
  pub retired : c.retired ≡ 0
  pub events : c.events.items ≡ history
  pub lives : c.lives.items ≡ lives_of units history
  pub tally : c.tally ≡ tally_of (lives_of units history)
  pub head : c.head ≡ (tally_of (lives_of units history)).retired % units
  pub standing : c.standing ≡ stands
  pub waits : c.waits.items ≡ []

-- the sizes that a history of a machine has
pub record HasRoom (c : Chart) : Type 0 where
  pub units : 0 < c.axis.units
  pub columns : c.axis.count ≤ most_events
  pub events : length c.events.items ≤ most_events
  pub retired : c.retired ≤ most_events
  pub lives : length c.lives.items ≤ most_events
