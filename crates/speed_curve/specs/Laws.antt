-- The theorem about the rows, as a statement over every program.
use Rattle.std.specs.Prelude.{◌≡◌, ℕ, List}
use Rattle.task_descriptor.specs.Listing.{Listing}
use Rattle.unit_turns.specs.declared.predictor.Predictor.{Predictor}
use Rattle.speed_curve.specs.declared.row.Row.{Row}
use Rattle.speed_curve.specs.Curve.{AreRows}

-- there is one list of rows of each length
abbrev pub AreDetermined : Type 0
AreDetermined =
    (p : Listing) (budget : ℕ) (predictor : Predictor) (most : ℕ) (rows others : List Row)
    → AreRows p budget predictor most rows → AreRows p budget predictor most others → rows ≡ others
