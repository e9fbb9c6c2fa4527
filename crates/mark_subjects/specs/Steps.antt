-- A stop that may be forgotten: a path goes on, inside a task, into the first instruction of a task.
use Rattle.std.specs.Prelude.{ℕ, Bool, true, false, not, ◌&&◌, ◌||◌, ◌==◌, List, [], ◌∷◌, slice_get, Option, Some, None}
use Rattle.std.specs.Option.{option_or}
use Rattle.std.specs.declared.alloc.Global.{Global}
use Rattle.std.specs.declared.vec.Vec.{Vec}
use Rattle.finding_paths.specs.declared.shown.ShownFinding.{ShownFinding}
use Rattle.mark_subjects.specs.Subjects.{Judged, task_at}
use Rattle.mark_subjects.specs.Targets.{is_target, may_stop}

-- the first step of a path into a task's first instruction: the instruction that it leaves, and the task
abbrev pub entered_by : (from : ℕ) → Option ℕ → (later : Option (ℕ × ℕ)) → Option (ℕ × ℕ)
entered_by from None later = later
entered_by from (Some task) later = Some (from, task)

abbrev pub first_task : Judged → Option ℕ → Option ℕ
first_task s None = None
first_task s (Some to) = task_at s to

abbrev pub entered : Judged → List ℕ → Option (ℕ × ℕ)
entered s [] = None
entered s (from ∷ rest) = entered_by from (first_task s (slice_get rest 0)) (entered s rest)

-- the path that shows a finding; empty where there is none
abbrev pub path_in : Option (Vec ℕ Global) → List ℕ
path_in None = []
path_in (Some path) = path.items

-- the first such step of the paths that show some findings
abbrev pub first_entered : Judged → List ShownFinding → Option (ℕ × ℕ)
first_entered s [] = None
first_entered s (shown ∷ rest) = option_or (entered s (path_in shown.path)) (first_entered s rest)

-- where the step leads into a target, or into another task, a stop is the first thing to do
abbrev pub is_end_first : Judged → (task : ℕ) → (step : ℕ × ℕ) → Bool
is_end_first s task step = (is_target s task step.1 || not (step.1 == task)) && may_stop s task step.0
