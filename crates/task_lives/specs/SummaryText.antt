-- The summary of a run: a heading, a row for each task of the program, in the order of their numbers, and a
-- row for all lives.
use Rattle.std.specs.Prelude.{ℕ, ◌+◌, ◌-◌, List, [], ◌∷◌, ◌++◌, length, replicate, codes}
use Rattle.std.specs.Fmt.{decimal}
use Rattle.task_descriptor.specs.Listing.{Listing}
use Rattle.task_descriptor.specs.declared.descriptor.Descriptor.{Descriptor}
use Rattle.task_lives.specs.declared.life.Life.{Life}
use Rattle.task_lives.specs.declared.tally.Tally.{Tally}
use Rattle.task_lives.specs.Tallies.{tally_of, of_task}

-- a number at the right of a column of this width; one that is wider stands there whole
abbrev pub column : (width : ℕ) → ℕ → List ℕ
column width n = replicate (width - length (decimal n)) 32 ++ decimal n

-- a row: the numbers of a tally, each at the right of its column, and then a name
abbrev pub row_text : Tally → (name : List ℕ) → List ℕ
row_text t name =
    column 8 t.assigned ++ (column 9 t.retired ++ (column 10 t.squashed ++ (column 9 t.dropped
    ++ (column 12 t.unfinished ++ (column 8 t.useful ++ (column 8 t.wasted ++ (codes "  " ++ (name ++ 10 ∷ []))))))))

-- the rows of tasks, of which the first has this number; each counts the lives of its task
abbrev pub task_rows : List Life → (task : ℕ) → List Descriptor → List ℕ
task_rows lives task [] = []
task_rows lives task (d ∷ ds) = row_text (tally_of (of_task task lives)) d.name ++ task_rows lives (task + 1) ds

abbrev pub heading : List ℕ
heading = codes "assigned  retired  squashed  dropped  unfinished  useful  wasted  task" ++ 10 ∷ []

-- the whole text. No task is named `(all)`, since a name has no parentheses (`is_name`)
abbrev pub summary_text : Listing → List Life → List ℕ
summary_text p lives =
    heading ++ (task_rows lives 0 p.tasks ++ row_text (tally_of lives) (codes "(all)"))
