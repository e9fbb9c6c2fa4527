-- What a predictor answers: a number, and the next task begins at the target at this position,
-- modulo the number of targets.
use Rattle.std.specs.Prelude.{ℕ, ◌-◌, ◌^◌, List, length, min, slice_index}
use Rattle.sequencer.specs.Scripts.{answered}
use Rattle.unit_turns.specs.declared.predictor.Predictor.{Predictor}
use Rattle.unit_turns.specs.declared.predictor.Predictor.TheVariants as predictor

-- the answer for some targets; a number of 32 bits
abbrev pub answer_for : Predictor → (targets : List ℕ) → ℕ
answer_for predictor.First targets = 0
answer_for predictor.Last targets = min (length targets - 1) (2 ^ 32 - 1)
answer_for (predictor.Script script) targets = slice_index script.list script.at

-- the predictor once it has answered
abbrev pub asked : Predictor → Predictor
asked (predictor.Script script) = predictor.Script (answered script)
asked other = other
