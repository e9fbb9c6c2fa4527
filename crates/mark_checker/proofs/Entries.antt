-- What is marked so far, or begins among the tasks that are left, is what begins in the program.
use Rattle.std.proofs.Common.{◌≡◌, ℕ, ◌≤◌, Bool, false, ◌||◌, nat_eq, List, get_or, drop}
use Rattle.std.specs.List.{list_any}
use Rattle.task_descriptor.specs.Listing.{Listing}
use Rattle.task_descriptor.specs.declared.descriptor.Descriptor.{Descriptor}
use Rattle.task_graph.specs.Soundness.{is_entry}

-- whether one of the tasks from the n-th on begins at the index
abbrev pub begins_from : List Descriptor → ℕ → ℕ → Bool
begins_from tasks n j = list_any (λ (d : Descriptor). nat_eq j d.entry) (drop n tasks)

abbrev pub EntriesBelow : Listing → List Bool → ℕ → Type 0
EntriesBelow p begins n = (j : ℕ) → j ≤ 4096 → (get_or begins j false || begins_from p.tasks n j) ≡ is_entry p j
