-- Worked examples, computed by the checker: the tallies of three lives, and the text of a summary.
use Rattle.std.specs.Prelude.{◌≡◌, ℕ, List, [], ◌∷◌, ◌++◌, false, codes}
use Rattle.std.specs.Fmt.{digits}
use Rattle.std.proofs.Common.{refl}
use Rattle.task_descriptor.specs.Names.{is_name}
use Rattle.task_lives.specs.declared.life.Ending.{Ending}
use Rattle.task_lives.specs.declared.life.Ending.TheVariants.{Retired, Squashed, Dropped, Unfinished}
use Rattle.task_lives.specs.declared.life.Life.{Life}
use Rattle.task_lives.specs.declared.tally.Tally.{Tally}
use Rattle.task_lives.specs.Tallies.{tally_of, tallies_of}
use Rattle.task_lives.specs.SummaryText.{column, row_text}

abbrev life : (task unit first last executed : ℕ) → Ending → Life
life task unit first last executed ending = record {
  task = task;
  unit = unit;
  first = first;
  last = last;
  executed = executed;
  ending = ending;
}

abbrev tally : (assigned retired squashed dropped unfinished useful wasted : ℕ) → Tally
tally assigned retired squashed dropped unfinished useful wasted = record {
  assigned = assigned;
  retired = retired;
  squashed = squashed;
  dropped = dropped;
  unfinished = unfinished;
  useful = useful;
  wasted = wasted;
}

-- task 0 twice, once retired; task 1 twice, once squashed after 3 instructions, once dropped after 2
abbrev some_lives : List Life
some_lives = life 0 0 0 15 4 Retired ∷ life 1 1 1 9 3 Squashed ∷ life 0 1 10 15 7 Unfinished ∷ life 1 0 16 20 2 Dropped ∷ []

pub tally_of_all : tally_of some_lives ≡ tally 4 1 1 1 1 4 5
tally_of_all = refl

pub tallies_of_three : tallies_of 3 some_lives ≡ tally 2 1 0 0 1 4 0 ∷ tally 2 0 1 1 0 0 5 ∷ tally 0 0 0 0 0 0 0 ∷ []
tallies_of_three = refl

pub number_at_the_right : column 8 1000000 ≡ codes " 1000000"
unfolding digits
number_at_the_right = refl

pub row_of_all : row_text (tally_of some_lives) (codes "(all)") ≡ codes "       4        1         1        1           1       4       5  (all)" ++ 10 ∷ []
unfolding digits
row_of_all = refl

pub all_is_no_name : is_name (codes "(all)") ≡ false
all_is_no_name = refl
