-- Where a task goes: the targets that exits take, and the first target where no task begins.
use Rattle.std.specs.Prelude.{ℕ, Bool, true, false, not, ◌||◌, ◌==◌, List, position, unwrap_or, Option, Some, None, if◌then◌else◌}
use Rattle.std.specs.List.{list_any}
use Rattle.mark_checker.specs.declared.finding.Finding.{Finding}
use Rattle.mark_subjects.specs.Subjects.{Judged, targets_of, entries_of, is_entry, exit_end, is_end}
use Rattle.mark_subjects.specs.Targets.{both}

-- where the exit of a finding leads when the branch is taken, or is not, if that is no target
abbrev pub unless_in : List ℕ → Option ℕ → Option ℕ
unless_in targets None = None
unless_in targets (Some j) = if list_any (λ t. t == j) targets then None else Some j

abbrev pub unlisted : Judged → Finding → (taken : Bool) → Option ℕ
unlisted s f taken = unless_in (targets_of s f.task) (exit_end s f.index taken)

-- the targets that its task lacks
abbrev pub lacking : Judged → Finding → List ℕ
lacking s f = both (unlisted s f false) (unlisted s f true)

-- some exit of an instruction that the task reaches leads there
abbrev pub is_taken : Judged → (task to : ℕ) → Bool
is_taken s task j = list_any (λ e. is_end (exit_end s e.0 false) j || is_end (exit_end s e.0 true) j) (entries_of s task)

-- the first target where no task begins
abbrev pub wrong_number : Judged → (task : ℕ) → ℕ
wrong_number s task = unwrap_or (position (λ j. not (is_entry s j)) (targets_of s task)) 0
