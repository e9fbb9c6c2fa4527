-- The lives that changes tell: they are read one list after the other, each of which has the changes of an event.
use Rattle.std.specs.Prelude.{ℕ, suc, ◌+◌, ◌-◌, ◌%◌, List, [], ◌∷◌, ◌++◌, Bool, true, false, nat_eq, if◌then◌else◌, length, filter, flat_map, fold}
use Rattle.task_lives.specs.Sums.{is_unfinished}
use Rattle.task_lives.specs.declared.life.Ending.TheVariants as ended
use Rattle.task_lives.specs.declared.life.Life.{Life}
use Rattle.event_trace.specs.declared.change.Change.{Change}
use Rattle.event_trace.specs.declared.change.Change.TheVariants.{AtUnit}
use Rattle.event_trace.specs.declared.unit_change.UnitChange.{UnitChange}
use Rattle.event_trace.specs.declared.unit_change.UnitChange.TheVariants.{Began, Executed, Squashed, Dropped, Retired}

-- ---- one life

-- a life with a change of its unit
abbrev pub life_with : UnitChange → Life → Life
life_with (Executed index) life = record life { executed = suc life.executed }
life_with Squashed life = record life { ending = ended.Squashed }
life_with Dropped life = record life { ending = ended.Dropped }
life_with (Retired exit) life = record life { ending = ended.Retired }
life_with change life = life

-- the life of the unit at a position, with any change
abbrev pub life_told : (position : ℕ) → Life → Change → Life
life_told k life (AtUnit j task change) = if nat_eq j k then life_with change life else life
life_told k life change = life

-- with all changes of an event, which is the last one so far
abbrev pub life_after : (position : ℕ) → List Change → Life → Life
life_after k changes life = fold (life_told k) (record life { last = suc life.last }) changes

-- how many tasks retire
abbrev pub is_retirement : Change → Bool
is_retirement (AtUnit j task (Retired exit)) = true
is_retirement change = false

abbrev pub retired_by : List Change → ℕ
retired_by changes = length (filter is_retirement changes)

-- with the changes of the events that come, up to the one that ends it. For each task that retires the unit is
-- one position nearer to the head
abbrev pub lived : (position : ℕ) → Life → List (List Change) → Life
lived k life [] = life
lived k life (changes ∷ later) =
    if is_unfinished (life_after k changes life).ending
    then lived (k - retired_by changes) (life_after k changes life) later
    else life_after k changes life

-- ---- all lives

-- a life as it begins: in the event of this number, before which `retired` tasks have retired, at a position
abbrev pub beginning_life : (units retired number position task : ℕ) → Life
beginning_life units retired number position task = record {
  task = task;
  unit = (retired + position) % units;
  first = number;
  last = number;
  executed = 0;
  ending = ended.Unfinished;
}

-- the lives that a change begins, with the changes of later events
abbrev pub begun_by : (units retired number : ℕ) → (later : List (List Change)) → Change → List Life
begun_by units retired number later (AtUnit j task (Began index)) = lived j (beginning_life units retired number j task) later ∷ []
begun_by units retired number later change = []

-- those that begin in some events, the first of which has this number
abbrev pub lives_told_from : (units retired number : ℕ) → List (List Change) → List Life
lives_told_from units retired number [] = []
lives_told_from units retired number (changes ∷ later) =
    flat_map (begun_by units retired number later) changes
    ++ lives_told_from units (retired + retired_by changes) (suc number) later

-- the lives on some number of units, in the order in which they begin
abbrev pub lives_told : (units : ℕ) → List (List Change) → List Life
lives_told units lists = lives_told_from units 0 0 lists
