-- The theorem.
use Rattle.speed_curve.proofs.Determined.{determined}
use Rattle.speed_curve.proofs.laws.rows_are_determined.Goals as goal

pub returns : goal.returns
returns c = determined
