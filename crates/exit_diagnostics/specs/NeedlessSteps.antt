-- Helper vocabulary of the search for what a task comes to from an instruction that has lost its stop. No contract of
-- a public function cites a word of this file.
use Rattle.std.specs.Prelude.{ℕ, Bool, true, false, not, ◌&&◌, ◌||◌, ◌==◌, List, length, Option, Some, None}
use Rattle.std.specs.List.{list_any, range_with_len}
use Rattle.task_descriptor.specs.declared.descriptor.Marked.{Marked}
use Rattle.task_graph.specs.SearchSteps.{is_marked}
use Rattle.mark_subjects.specs.Subjects.{Judged, targets_of, is_entry, is_end}
use Rattle.exit_diagnostics.specs.Needless.{exit_at, stays_right, comes_to}

-- an exit is a target of the task, whether or not a task begins there
abbrev pub is_listed : Judged → (task : ℕ) → Option ℕ → Bool
is_listed s task None = true
is_listed s task (Some k) = list_any (λ t. t == k) (targets_of s task)

abbrev pub exits_listed : Judged → List Marked → (task index : ℕ) → Bool
exits_listed s code task j = is_listed s task (exit_at code j false) && is_listed s task (exit_at code j true)

abbrev pub is_right : Judged → List Marked → (task index : ℕ) → Bool
is_right s code task j = exits_listed s code task j && stays_right code j

-- some marked instruction is wrong for the task
abbrev pub some_wrong : Judged → List Marked → (marks : List Bool) → (task : ℕ) → Bool
some_wrong s code marks task = list_any (λ j. is_marked marks j && not (is_right s code task j)) (range_with_len 0 (length code))

-- some marked instruction exits to a place
abbrev pub exits_to : List Marked → (index to : ℕ) → Bool
exits_to code j k = is_end (exit_at code j false) k || is_end (exit_at code j true) k

abbrev pub some_exits_to : List Marked → (marks : List Bool) → (to : ℕ) → Bool
some_exits_to code marks k = list_any (λ j. is_marked marks j && exits_to code j k) (range_with_len 0 (length code))

-- some task that comes to the instruction at i does not list it
abbrev pub lacks : Judged → (task i to other : ℕ) → Bool
lacks s task i k other = comes_to s task i other && not (list_any (λ t. t == k) (targets_of s other))

abbrev pub some_lacks : Judged → (task i to : ℕ) → Bool
some_lacks s task i k = list_any (lacks s task i k) (range_with_len 0 (length s.program.tasks))

-- a target of the task to which one exits, though no task begins there, or another one that comes there does not list it
abbrev pub is_wrong_target : Judged → List Marked → (marks : List Bool) → (task i to : ℕ) → Bool
is_wrong_target s code marks task i k = some_exits_to code marks k && (not (is_entry s k) || some_lacks s task i k)

abbrev pub some_target_wrong : Judged → List Marked → (marks : List Bool) → (task i : ℕ) → Bool
some_target_wrong s code marks task i = list_any (is_wrong_target s code marks task i) (targets_of s task)

abbrev pub all_right : Judged → List Marked → (marks : List Bool) → (task i : ℕ) → Bool
all_right s code marks task i = not (some_wrong s code marks task) && not (some_target_wrong s code marks task i)
