-- A step of a path leads into a task, or the path goes on.
use Rattle.std.proofs.Common.{◌≡◌, ℕ, List, ◌∷◌, Option, Some, slice_get, sym, ◌∙◌, ap}
use Rattle.mark_subjects.specs.Subjects.{Judged}
use Rattle.mark_subjects.specs.Steps.{entered_by, first_task, entered}

pub step_found : (s : Judged) (rest path : List ℕ) (from : ℕ) (behind : List ℕ) (task : ℕ) → rest ≡ from ∷ behind → first_task s (slice_get behind 0) ≡ Some task
    → entered s rest ≡ entered s path → Some (from, task) ≡ entered s path
step_found s rest path from behind task is found so_far =
    sym (ap (λ (o : Option ℕ). entered_by from o (entered s behind)) found) ∙ sym (ap (entered s) is) ∙ so_far
