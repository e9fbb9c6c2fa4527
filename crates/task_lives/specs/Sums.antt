-- Sums over lives: how many ended in a way, and how many instructions these executed.
use Rattle.std.specs.Prelude.{◌≡◌, ℕ, ◌+◌, ◌≤◌, List, length, map, filter, Bool, true, false}
use Rattle.std.specs.List.{sum_by, count_by}
use Rattle.machine_model.specs.declared.event.Commit.{Commit}
use Rattle.machine_model.specs.declared.event.Event.{Event}
use Rattle.machine_model.specs.declared.event.Event.TheVariants.{Assign, Exec, Retire}
use Rattle.machine_model.specs.Machine.{Active, State}
use Rattle.machine_model.specs.Answer.{most_events}
use Rattle.machine_model.specs.Claims.{count_c}
use Rattle.task_lives.specs.declared.life.Ending.{Ending}
use Rattle.task_lives.specs.declared.life.Ending.TheVariants.{Retired, Squashed, Dropped, Unfinished}
use Rattle.task_lives.specs.declared.life.Life.{Life}

-- tests of endings
abbrev pub is_retired : Ending → Bool
is_retired Retired = true
is_retired _ = false

abbrev pub is_squashed : Ending → Bool
is_squashed Squashed = true
is_squashed _ = false

abbrev pub is_dropped : Ending → Bool
is_dropped Dropped = true
is_dropped _ = false

abbrev pub is_unfinished : Ending → Bool
is_unfinished Unfinished = true
is_unfinished _ = false

-- the lives whose ending passes a test
abbrev pub ended : (Ending → Bool) → List Life → List Life
ended test lives = filter (λ life. test life.ending) lives

-- how many these are, and how many instructions they executed
abbrev pub number_ended : (Ending → Bool) → List Life → ℕ
number_ended test lives = length (ended test lives)

abbrev pub instructions : (Ending → Bool) → List Life → ℕ
instructions test lives = sum_by (λ life. life.executed) (ended test lives)

-- no more lives than a history may have events, and no more instructions
abbrev pub AreFew : List Life → Type 0
AreFew lives = (length lives ≤ most_events) × (sum_by (λ life. life.executed) lives ≤ most_events)

-- events that begin lives, that execute an instruction, and that retire tasks
abbrev pub is_assign : Event → Bool
is_assign (Assign task) = true
is_assign e = false

abbrev pub is_exec : Event → Bool
is_exec (Exec k) = true
is_exec e = false

abbrev pub is_retire : Event → Bool
is_retire Retire = true
is_retire e = false

-- a task, and how many instructions it executed: as its life says, as its commit does, and as its unit
-- does
pub record Work : Type 0 where
  pub task : ℕ
  pub executed : ℕ

abbrev pub work_of_life : Life → Work
work_of_life life = record { task = life.task; executed = life.executed }

abbrev pub work_of_commit : Commit → Work
work_of_commit commit = record { task = commit.task; executed = commit.count }

abbrev pub work_of_unit : Active → Work
work_of_unit unit = record { task = unit.task; executed = length unit.log }

-- what lives state about a history that leaves a state
pub record AddUp (history : List Event) (s : State) (lives : List Life) : Type 0 where
  -- each Assign begins a life
  pub assigns : length lives ≡ count_by is_assign history
  -- each life has one of four endings
  pub endings : length lives ≡ number_ended is_retired lives + number_ended is_squashed lives + number_ended is_dropped lives + number_ended is_unfinished lives
  -- the lives that retired are the commits, in their order
  pub retired : map work_of_life (ended is_retired lives) ≡ map work_of_commit s.commits
  -- they are as many as the Retires
  pub retires : number_ended is_retired lives ≡ count_by is_retire history
  -- the unfinished ones are the units at work, in their order
  pub unfinished : map work_of_life (ended is_unfinished lives) ≡ map work_of_unit s.queue
  -- they are as many
  pub active : number_ended is_unfinished lives ≡ length s.queue
  -- those that retired executed c instructions
  pub count : instructions is_retired lives ≡ count_c s
  -- all of them executed each instruction of the history
  pub executed : sum_by (λ life. life.executed) lives ≡ count_by is_exec history
