-- Worked examples, computed by the checker.
use Rattle.std.specs.Prelude.{◌≡◌, ℕ, ◌+◌, ◌*◌, [], ◌∷◌}
use Rattle.std.proofs.Common.{refl}
use Rattle.machine_model.specs.declared.event.Event.TheVariants.{Assign, Exec, Transfer, Drain, Squash, Retire}
use Rattle.machine_model.specs.declared.event.Standing.TheVariants as standing
use Rattle.task_lives.specs.declared.life.Ending.TheVariants.{Squashed, Unfinished}
use Rattle.task_lives.specs.declared.life.Life.{Life}
use Rattle.run_picture.specs.declared.shape.Axis.{Axis}
use Rattle.run_picture.specs.declared.shape.Counted.TheVariants.{Events, Steps}
use Rattle.run_picture.specs.declared.shape.Meaning.TheVariants.{OfHead, OfExec, OfTransfer, OfDrain, OfSquash}
use Rattle.run_picture.specs.Meanings.{ending_told, heads_of, marks_from}
use Rattle.run_picture.specs.Stretches.{overlap, share_of}

abbrev life : Life
life = record { task = 1; unit = 1; first = 1; last = 9; executed = 3; ending = Squashed }

pub halted : ending_told 1 standing.Halted (record life { ending = Unfinished }) ≡ standing.Halted
halted = refl

pub squashed : ending_told 1 standing.Halted life ≡ standing.Running
squashed = refl

-- unit 0, which has stopped, sends `$8`, which goes on to unit 1; after the Retire the instruction at position 0 is one of unit 1
pub marks : marks_from (record { counted = Events; units = 2; lanes = 2; before = 0; count = 5; total = 5 }) (1 ∷ 2 ∷ 3 ∷ 4 ∷ 5 ∷ []) 0 0 (Assign 0 ∷ Drain 0 8 ∷ Transfer 1 8 ∷ Retire ∷ Exec 0 ∷ [])
    ≡ OfDrain Events 2 8 0 ∷ OfTransfer Events 3 8 0 1 ∷ OfExec Events 5 1 ∷ []
marks = refl

-- unit 0 is the head up to event 4, in which its task retires, and then unit 1
pub heads : heads_of (record { counted = Events; units = 2; lanes = 2; before = 0; count = 5; total = 5 }) (1 ∷ 2 ∷ 3 ∷ 4 ∷ 5 ∷ []) 0 (Assign 0 ∷ Drain 0 8 ∷ Transfer 1 8 ∷ Retire ∷ Exec 0 ∷ [])
    ≡ OfHead Events 0 4 0 ∷ OfHead Events 4 5 1 ∷ []
heads = refl

-- more than 300 steps have room for squashes alone; both events come in step 7
pub marks_of_many : marks_from (record { counted = Steps; units = 2; lanes = 2; before = 0; count = 301; total = 301 }) (7 ∷ 7 ∷ []) 0 0 (Exec 1 ∷ Squash 0 ∷ []) ≡ OfSquash Steps 7 0 ∷ []
marks_of_many = refl

-- in stretches of 4 events, events 1 to 9 have 3, 4 and 2
pub overlaps : overlap 4 0 life ∷ overlap 4 1 life ∷ overlap 4 2 life ∷ overlap 4 3 life ∷ [] ≡ 3 ∷ 4 ∷ 2 ∷ 0 ∷ []
overlaps = refl

-- they count for the part of squashed lives (1) of unit 1 in stretch 2, and for no other
pub share_of_squashed : share_of 4 (life ∷ []) ((290 + 2) * 4 + 1) ≡ 2
share_of_squashed = refl

pub no_share_of_retired : share_of 4 (life ∷ []) ((290 + 2) * 4) ≡ 0
no_share_of_retired = refl
