-- Worked examples, computed by the checker: what arrives as a unit takes its task, and as it becomes the head; and
-- the lives that changes tell.
use Rattle.std.specs.Prelude.{◌≡◌, ℕ, List, [], ◌∷◌, nat_eq, if◌then◌else◌, Some, None}
use Rattle.std.proofs.Common.{refl}
use Rattle.machine_model.specs.Machine.{Active, Words}
use Rattle.machine_model.specs.declared.event.Spot.TheVariants.{Inside}
use Rattle.task_lives.specs.declared.life.Ending.{Ending}
use Rattle.task_lives.specs.declared.life.Ending.TheVariants as ended
use Rattle.task_lives.specs.declared.life.Life.{Life}
use Rattle.event_trace.specs.Changes.{became_head, began, has_arrived, register_count}
use Rattle.event_trace.specs.LivesTold.{lives_told}
use Rattle.event_trace.specs.declared.change.Change.{Change}
use Rattle.event_trace.specs.declared.change.Change.TheVariants.{AtUnit, Took, MovedTo, StoppedAt}
use Rattle.event_trace.specs.declared.unit_change.UnitChange.TheVariants.{Began, Executed, Squashed, Dropped, Retired, BecameHead}

-- a unit of task 1 before the instruction of index 5, at which these registers have arrived
abbrev unit_with : Words → Active
unit_with words = record { task = 1; serial = 0; arrived = words; local = λ r. None; sent = λ r. None; place = Inside 5; log = [] }

-- $8 has 3, $9 is reserved, and all others are 0
abbrev at_first : Words
at_first r = if nat_eq r 8 then Some 3 else (if nat_eq r 9 then None else Some 0)

-- then $9 has 7
abbrev at_last : Words
at_last r = if nat_eq r 9 then Some 7 else at_first r

pub begins_with_one : began 2 (Some (unit_with at_first)) ≡ AtUnit 2 1 (Began 5) ∷ Took 8 3 ∷ []
unfolding register_count
begins_with_one = refl

pub head_takes_the_other : became_head (has_arrived (Some (unit_with at_first))) (Some (unit_with at_last)) ≡ AtUnit 1 1 BecameHead ∷ Took 9 7 ∷ []
unfolding register_count
head_takes_the_other = refl

pub last_of_the_queue : became_head (has_arrived None) None ≡ []
last_of_the_queue = refl

abbrev life : (task unit first last executed : ℕ) → Ending → Life
life task unit first last executed ending = record {
  task = task;
  unit = unit;
  first = first;
  last = last;
  executed = executed;
  ending = ending;
}

-- two tasks begin, each executes an instruction, and the first retires; after the other, which executes one more, a
-- third begins, and is dropped
abbrev some_changes : List (List Change)
some_changes =
    (AtUnit 0 0 (Began 0) ∷ [])
    ∷ (AtUnit 1 1 (Began 5) ∷ [])
    ∷ (AtUnit 1 1 (Executed 5) ∷ MovedTo 6 ∷ [])
    ∷ (AtUnit 0 0 (Executed 0) ∷ StoppedAt 4194324 ∷ [])
    ∷ (AtUnit 0 0 (Retired 4194324) ∷ AtUnit 1 1 BecameHead ∷ Took 8 3 ∷ [])
    ∷ (AtUnit 1 2 (Began 9) ∷ [])
    ∷ (AtUnit 0 1 (Executed 6) ∷ MovedTo 7 ∷ [])
    ∷ (AtUnit 1 2 Dropped ∷ [])
    ∷ []

pub lives_of_three : lives_told 2 some_changes ≡ life 0 0 0 4 1 ended.Retired ∷ life 1 1 1 7 2 ended.Unfinished ∷ life 2 0 5 7 0 ended.Dropped ∷ []
lives_of_three = refl

-- what is after a unit that began wrongly is squashed with it
pub lives_squashed : lives_told 3 ((AtUnit 0 0 (Began 0) ∷ []) ∷ (AtUnit 1 1 (Began 5) ∷ []) ∷ (AtUnit 2 1 (Began 5) ∷ []) ∷ (AtUnit 1 1 Squashed ∷ AtUnit 2 1 Squashed ∷ []) ∷ [])
    ≡ life 0 0 0 3 0 ended.Unfinished ∷ life 1 1 1 3 0 ended.Squashed ∷ life 1 2 2 3 0 ended.Squashed ∷ []
lives_squashed = refl
