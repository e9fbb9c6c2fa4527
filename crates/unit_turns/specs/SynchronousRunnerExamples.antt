-- Worked examples, computed by the checker: the first steps of the loop `count` on two
-- units, and what the predictors answer.
use Rattle.std.specs.Prelude.{◌≡◌, [], ◌∷◌, false}
use Rattle.std.proofs.Common.{refl}
use Rattle.mips_instructions.specs.Words.{address, index_of}
use Rattle.mips_plain.specs.MemoryMap.{region, effective}
use Rattle.machine_model.specs.Refusals.{least}
use Rattle.machine_model.specs.Examples.{count}
use Rattle.machine_model.specs.declared.event.Event.TheVariants.{Assign, Exec, Transfer, Drain, Retire}
use Rattle.unit_turns.specs.FirstAllowed.{registers, first_allowed}
use Rattle.unit_turns.specs.declared.predictor.Predictor.TheVariants as predictor
use Rattle.unit_turns.specs.Predictions.{answer_for, asked}
use Rattle.unit_turns.specs.Steps.{Course, beginning, goes_on, after_steps}

-- the first task begins
pub one_step : (after_steps count 2 100 1 (beginning count predictor.First)).events ≡ Assign 0 ∷ []
unfolding address index_of region effective least registers first_allowed
one_step = refl

-- The free unit takes the next round and the head executes; then the second unit takes register 8, which
-- the head has sent, while the head executes again.
pub three_steps : (after_steps count 2 100 3 (beginning count predictor.First)).events ≡ Assign 0 ∷ Assign 0 ∷ Exec 0 ∷ Transfer 1 8 ∷ Exec 0 ∷ []
unfolding address index_of region effective least registers first_allowed
three_steps = refl

-- the round of the head ends with its Retire in the seventh step
pub seven_steps : (after_steps count 2 100 7 (beginning count predictor.First)).events ≡ Assign 0 ∷ Assign 0 ∷ Exec 0 ∷ Transfer 1 8 ∷ Exec 0 ∷ Exec 1 ∷ Exec 0 ∷ Transfer 1 9 ∷ Exec 0 ∷ Exec 1 ∷ Drain 0 10 ∷ Exec 1 ∷ Retire ∷ []
unfolding address index_of region effective least registers first_allowed
seven_steps = refl

-- the last target is the task after the loop
pub last_target : (after_steps count 2 100 2 (beginning count predictor.Last)).events ≡ Assign 0 ∷ Assign 1 ∷ Exec 0 ∷ []
unfolding address index_of region effective least registers first_allowed
last_target = refl

-- a list of answers is used in order, one answer for each task that is predicted
abbrev pub listed : Course
listed = after_steps count 2 100 2 (beginning count (predictor.Script (record { list = 1 ∷ 0 ∷ []; at = 0 })))

pub listed_target : listed.events ≡ Assign 0 ∷ Assign 1 ∷ Exec 0 ∷ []
unfolding address index_of region effective least registers first_allowed
listed_target = refl

pub next_answer : listed.predictor ≡ predictor.Script (record { list = 1 ∷ 0 ∷ []; at = 1 })
unfolding address index_of region effective least registers first_allowed
next_answer = refl

-- a budget of four events cuts the third step short, and ends the run
abbrev pub short : Course
short = after_steps count 2 4 3 (beginning count predictor.First)

pub four_events : short.events ≡ Assign 0 ∷ Assign 0 ∷ Exec 0 ∷ Transfer 1 8 ∷ []
unfolding address index_of region effective least registers first_allowed
four_events = refl

pub no_more : goes_on 4 short.state 4 ≡ false
unfolding address index_of region effective least registers first_allowed
no_more = refl

-- what the predictors answer for three targets
pub first_answer : answer_for predictor.First (3 ∷ 5 ∷ 9 ∷ []) ≡ 0
first_answer = refl

pub last_answer : answer_for predictor.Last (3 ∷ 5 ∷ 9 ∷ []) ≡ 2
last_answer = refl

pub list_answer : answer_for (predictor.Script (record { list = 7 ∷ 1 ∷ []; at = 1 })) (3 ∷ 5 ∷ 9 ∷ []) ≡ 1
list_answer = refl

-- after its last number a list begins again
pub list_again : asked (predictor.Script (record { list = 7 ∷ 1 ∷ []; at = 1 })) ≡ predictor.Script (record { list = 7 ∷ 1 ∷ []; at = 0 })
list_again = refl
