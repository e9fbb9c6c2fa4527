-- The paths that notes show.
use Rattle.std.specs.Prelude.{ℕ, ◌-◌, Bool, ◌==◌, ◌&&◌, List, [], ◌∷◌, ◌++◌, flat_map, slice_get, unwrap_or, nat_eq, if◌then◌else◌}
use Rattle.diagnostics.specs.declared.diagnostic.Span.{Span}
use Rattle.diagnostics.specs.declared.diagnostic.Note.{Note}
use Rattle.mark_subjects.specs.Subjects.{Judged, instruction_span}

-- the steps of a path; the second instruction of a pseudo-instruction is no step of its own
abbrev pub is_second : Judged → (before index : ℕ) → Bool
is_second s before i = i - before == 1 && (instruction_span s i).line == (instruction_span s before).line

abbrev pub step_in : Judged → (before index : ℕ) → List Span
step_in s before i = if is_second s before i then [] else instruction_span s i ∷ []

abbrev pub steps_after : Judged → (before : ℕ) → List ℕ → List Span
steps_after s before [] = []
steps_after s before (i ∷ rest) = step_in s before i ++ steps_after s i rest

abbrev pub steps_of : Judged → List ℕ → List Span
steps_of s [] = []
steps_of s (i ∷ rest) = instruction_span s i ∷ steps_after s i rest

-- the paths that notes show
abbrev pub shown_path : List Span → List (List Span)
shown_path [] = []
shown_path (step ∷ steps) = (step ∷ steps) ∷ []

abbrev pub paths : List Note → List (List Span)
paths notes = flat_map (λ n. shown_path n.path) notes

-- the way to what is wrong from the task's entry, unless it stands there
abbrev pub first_or : (index : ℕ) → List ℕ → ℕ
first_or index path = unwrap_or (slice_get path 0) index

abbrev pub way_paths : Judged → (index : ℕ) → (path : List ℕ) → List (List Span)
way_paths s index path = if nat_eq (first_or index path) index then [] else shown_path (steps_of s path)
