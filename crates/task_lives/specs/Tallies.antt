-- Lives counted: how many there are, how they ended, and how much of their work was of use.
use Rattle.std.specs.Prelude.{ℕ, List, length, map, filter, nat_eq, Bool, true, false}
use Rattle.std.specs.List.{range_with_len}
use Rattle.task_lives.specs.declared.life.Ending.{Ending}
use Rattle.task_lives.specs.declared.life.Ending.TheVariants.{Squashed, Dropped}
use Rattle.task_lives.specs.declared.life.Life.{Life}
use Rattle.task_lives.specs.Sums.{is_retired, is_squashed, is_dropped, is_unfinished, number_ended, instructions}
use Rattle.task_lives.specs.declared.tally.Tally.{Tally}

-- the life was squashed or dropped, so that its work was wasted
abbrev pub is_given_up : Ending → Bool
is_given_up Squashed = true
is_given_up Dropped = true
is_given_up _ = false

-- of some lives: how many there are; how many retired, were squashed, were dropped, or are unfinished; how
-- many instructions the retired ones executed, and how many those that were given up. What the unfinished
-- ones executed is in neither of the last two
abbrev pub tally_of : List Life → Tally
tally_of lives = record {
  assigned = length lives;
  retired = number_ended is_retired lives;
  squashed = number_ended is_squashed lives;
  dropped = number_ended is_dropped lives;
  unfinished = number_ended is_unfinished lives;
  useful = instructions is_retired lives;
  wasted = instructions is_given_up lives;
}

-- the lives of one task
abbrev pub of_task : (task : ℕ) → List Life → List Life
of_task task lives = filter (λ life. nat_eq life.task task) lives

-- the tallies of the given number of tasks, from task 0 on
abbrev pub tallies_of : (tasks : ℕ) → List Life → List Tally
tallies_of tasks lives = map (λ task. tally_of (of_task task lives)) (range_with_len 0 tasks)
