-- The results of the runs of a program in steps, on 1, 2, 3 units and more. The steps are those of the synchronous
-- schedule: they say how far the marks let tasks overlap, and are no time of a processor.
use Rattle.std.specs.Prelude.{◌≡◌, ℕ, List, map}
use Rattle.std.specs.List.{All, range_with_len}
use Rattle.task_descriptor.specs.Listing.{Listing}
use Rattle.machine_model.specs.Claims.{count_c}
use Rattle.task_lives.specs.Lives.{lives_of}
use Rattle.task_lives.specs.Tallies.{tally_of}
use Rattle.unit_turns.specs.declared.predictor.Predictor.{Predictor}
use Rattle.unit_turns.specs.Steps.{Course, beginning, after_steps, Takes}
use Rattle.speed_curve.specs.declared.row.Row.{Row}

-- the result of a run on `units` units, after `steps` steps: the instructions of the tasks that retired, those of the
-- tasks that were squashed or dropped, and how the run stands
abbrev pub row_after : (units steps : ℕ) → Course → Row
row_after units steps c = record {
  units = units;
  steps = steps;
  retired = count_c c.state;
  wasted = (tally_of (lives_of units c.events)).wasted;
  standing = c.state.outcome;
}

-- it is the row of the run of a program on `units` units: the run takes its steps, and the rest is the result after
-- these
pub record IsRowOf (p : Listing) (budget : ℕ) (predictor : Predictor) (units : ℕ) (row : Row) : Type 0 where
  pub takes : Takes p units budget (beginning p predictor) row.steps
  pub is : row ≡ row_after units row.steps (after_steps p units budget row.steps (beginning p predictor))

-- the rows of the runs on 1, 2, 3 units and more, up to `most`
pub record AreRows (p : Listing) (budget : ℕ) (predictor : Predictor) (most : ℕ) (rows : List Row) : Type 0 where
  pub units : map (λ row. row.units) rows ≡ range_with_len 1 most
  pub runs : All (λ row. IsRowOf p budget predictor row.units row) rows
