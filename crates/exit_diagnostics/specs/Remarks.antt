-- What may be forgotten: a way to a task; or a stop, where a task reaches no exit, a target is taken by no exit, or a
-- task goes on into a target.
use Rattle.std.specs.Prelude.{ℕ, Bool, true, false, not, ◌&&◌, ◌||◌, ◌==◌, List, [], ◌∷◌, ◌++◌, flat_map, length, slice_get, is_some, position, unwrap_or, option_map, Option, Some, None, if◌then◌else◌}
use Rattle.std.specs.List.{find, list_any, range_with_len}
use Rattle.std.specs.Option.{option_or}
use Rattle.task_descriptor.specs.declared.descriptor.Descriptor.{Descriptor}
use Rattle.task_descriptor.specs.declared.descriptor.Marked.{Marked}
use Rattle.task_graph.specs.Edges.{is_indirect}
use Rattle.mark_checker.specs.Rules.{stops_always}
use Rattle.exit_diagnostics.specs.declared.remark.StopRemark.{StopRemark}
use Rattle.exit_diagnostics.specs.declared.remark.StopRemark.TheVariants.{NeverRuns, NoExit, NotTaken, GoesInto}
use Rattle.mark_subjects.specs.Subjects.{Judged, targets_of, task_at, entries_of, inner_end, exit_end}
use Rattle.exit_diagnostics.specs.Exits.{is_taken}
use Rattle.exit_diagnostics.specs.StopFits.{stop_fits}

-- the index of a task's first instruction; 0 where there is no such task
abbrev pub entry_in : Option Descriptor → ℕ
entry_in None = 0
entry_in (Some d) = d.entry

abbrev pub entry_of : Judged → (task : ℕ) → ℕ
entry_of s task = entry_in (slice_get s.program.tasks task)

-- Exits of a task.

-- a jump to an address in a register that ends the task may lead to any target
abbrev pub exits_anywhere_in : Option Marked → Bool
exits_anywhere_in None = false
exits_anywhere_in (Some m) = is_indirect m.op && stops_always m.stop

abbrev pub exits_anywhere : Judged → (index : ℕ) → Bool
exits_anywhere s i = exits_anywhere_in (slice_get s.program.code i)

abbrev pub exits : Judged → (index : ℕ) → Bool
exits s i = is_some (exit_end s i false) || (is_some (exit_end s i true) || exits_anywhere s i)

-- Where a task that never reaches a stop goes on into a target: there it is to end, if it may.

-- the task that begins at a place, if that is a target
abbrev pub target_into : Judged → (task : ℕ) → (place : Option ℕ) → Option ℕ
target_into s task None = None
target_into s task (Some j) = if list_any (λ t. t == j) (targets_of s task) then task_at s j else None

-- the target into which an instruction goes on
abbrev pub target_at : Judged → (task index : ℕ) → Option ℕ
target_at s task i = option_or (target_into s task (inner_end s i false)) (target_into s task (inner_end s i true))

abbrev pub may_end_before_target : Judged → (task index : ℕ) → Bool
may_end_before_target s task i = is_some (target_at s task i) && stop_fits s task i

abbrev pub first_end : Judged → (task : ℕ) → Option ℕ
first_end s task = option_map (λ e. e.0) (find (λ e. may_end_before_target s task e.0) (entries_of s task))

-- Targets that no exit takes.

abbrev pub first_untaken : Judged → (task : ℕ) → ℕ
first_untaken s task = unwrap_or (position (λ j. not (is_taken s task j)) (targets_of s task)) 0

abbrev pub has_untaken : Judged → (task : ℕ) → Bool
has_untaken s task = list_any (λ j. not (is_taken s task j)) (targets_of s task)

-- Where exits take all targets, an instruction that goes on into one without a stop.

abbrev pub step_by : (task index : ℕ) → Option ℕ → List StopRemark
step_by task i None = []
step_by task i (Some b) = GoesInto task i b ∷ []

-- the first instruction of a task that does so
abbrev pub step_at : Judged → (task : ℕ) → Option ℕ → List StopRemark
step_at s task None = []
step_at s task (Some i) = step_by task i (target_at s task i)

abbrev pub of_step : Judged → (task : ℕ) → List StopRemark
of_step s task = step_at s task (first_end s task)

-- what is remarked of the exits of a task that has targets
abbrev pub of_exits : Judged → (task : ℕ) → List StopRemark
of_exits s task =
    if not (list_any (λ e. exits s e.0) (entries_of s task)) then NoExit task ∷ []
    else if list_any (λ e. exits_anywhere s e.0) (entries_of s task) || not (has_untaken s task) then of_step s task
    else NotTaken task ∷ []

abbrev pub of_targets : List ℕ → Judged → (task : ℕ) → List StopRemark
of_targets [] s task = []
of_targets (j ∷ js) s task = of_exits s task

-- A task that never runs: the program starts elsewhere, and no other task has it as a target.

abbrev pub follows : (entry : ℕ) → Descriptor → Bool
follows entry d = not (d.entry == entry) && list_any (λ t. t == entry) d.targets

abbrev pub never_runs : Judged → (task : ℕ) → Bool
never_runs s task = not (s.program.start == entry_of s task) && not (list_any (follows (entry_of s task)) s.program.tasks)

abbrev pub of_start : Judged → (task : ℕ) → List StopRemark
of_start s task = if never_runs s task then NeverRuns task ∷ [] else []

-- What is remarked of a program, one task after another; of each at most two things.
abbrev pub of_task : Judged → (task : ℕ) → List StopRemark
of_task s task = of_start s task ++ of_targets (targets_of s task) s task

abbrev pub stop_remarks : Judged → List StopRemark
stop_remarks s = flat_map (of_task s) (range_with_len 0 (length s.program.tasks))
