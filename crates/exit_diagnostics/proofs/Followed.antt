-- A task that follows another is a target of some task.
use Rattle.std.proofs.Common.{◌≡◌, ℕ, ◌<◌, true, Some, List, length, get_or, slice_get, sym, ◌∙◌, ap}
use Rattle.std.specs.List.{list_any}
use Rattle.std.proofs.lemmas.List.Folds.{list_any_at}
use Rattle.std.proofs.lemmas.Option.{slice_get-get_or, slice_get_within}
use Rattle.task_descriptor.specs.declared.descriptor.Descriptor.{Descriptor}
use Rattle.exit_diagnostics.specs.Remarks.{follows}

pub followed_there : (tasks : List Descriptor) (entry k : ℕ) (d : Descriptor) → slice_get tasks k ≡ Some d → follows entry d ≡ true → true ≡ list_any (follows entry) tasks
followed_there tasks entry k d there holds =
    let within : k < length tasks = slice_get_within tasks k d there in
    let is : get_or tasks k d ≡ d = cc (there, slice_get-get_or tasks k d within) in
    sym (list_any_at (follows entry) tasks k d within (ap (follows entry) is ∙ holds))
