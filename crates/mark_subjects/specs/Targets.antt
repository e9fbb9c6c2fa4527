-- The targets of a task, and those that it lacks if it ends where it goes on into another task.
use Rattle.std.specs.Prelude.{ℕ, Bool, true, false, not, ◌&&◌, ◌||◌, ◌==◌, nat_eq, nat_lt, List, [], ◌∷◌, filter, length, is_some, Option, Some, None, if◌then◌else◌}
use Rattle.std.specs.List.{list_any}
use Rattle.std.specs.Option.{option_or, option_to_list}
use Rattle.task_descriptor.specs.declared.descriptor.Stop.{Stop}
use Rattle.task_descriptor.specs.declared.descriptor.Stop.TheVariants as stop
use Rattle.mark_subjects.specs.Subjects.{Judged, targets_of, task_at, is_entry, is_branch, stop_of, is_end, inner_end}

-- the task that an inner edge leads into
abbrev pub task_in : Judged → Option ℕ → Option ℕ
task_in s None = None
task_in s (Some j) = task_at s j

abbrev pub into : Judged → (index : ℕ) → (taken : Bool) → Option ℕ
into s i taken = task_in s (inner_end s i taken)

-- the stop that ends a task on the edges that lead into tasks
abbrev pub stop_by : (onward taken : Option ℕ) → Stop → (branch : Bool) → Stop
stop_by (Some a) None stop.None true = stop.NotTaken
stop_by None (Some b) stop.None true = stop.Taken
stop_by _ _ _ _ = stop.Always

abbrev pub missing_stop : Judged → (index : ℕ) → Stop
missing_stop s i = stop_by (into s i false) (into s i true) (stop_of s i) (is_branch s i)

-- the targets of a task where a task begins
abbrev pub entries_listed : Judged → (task : ℕ) → List ℕ
entries_listed s task = filter (is_entry s) (targets_of s task)

-- a task has this one as a target
abbrev pub is_target : Judged → (task into : ℕ) → Bool
is_target s task into = list_any (λ t. is_end (task_at s t) into) (targets_of s task)

-- these places; one to which both edges lead stands once
abbrev pub both : (onward taken : Option ℕ) → List ℕ
both (Some j) (Some k) = if nat_eq j k then j ∷ [] else j ∷ k ∷ []
both onward taken = option_to_list (option_or onward taken)

-- a place where a task begins, if it is no target
abbrev pub is_new : Judged → (task place : ℕ) → Bool
is_new s task j = is_entry s j && not (list_any (λ t. t == j) (targets_of s task))

abbrev pub new_target : Judged → (task : ℕ) → Option ℕ → Option ℕ
new_target s task None = None
new_target s task (Some j) = if is_new s task j then Some j else None

-- where an edge leads that stays in the task, if that is such a place
abbrev pub new_by : Judged → (task index : ℕ) → (taken : Bool) → Option ℕ
new_by s task i taken = new_target s task (inner_end s i taken)

-- the targets that the task lacks if it ends at an instruction that goes on into tasks
abbrev pub new_targets : Judged → (task index : ℕ) → List ℕ
new_targets s task i = both (new_by s task i false) (new_by s task i true)

-- whether there are such targets
abbrev pub lacks_some : Judged → (task index : ℕ) → Bool
lacks_some s task i = is_some (new_by s task i false) || is_some (new_by s task i true)

-- with these, of which there are at most two, a task has at most 16 targets
abbrev pub may_stop : Judged → (task index : ℕ) → Bool
may_stop s task i = not (lacks_some s task i) || nat_lt (length (targets_of s task)) 15
