-- Which task may come after a tail: one at the targets of a tail that still runs, else the one task that
-- may follow.
use Rattle.std.specs.Prelude.{ℕ, List, [], slice_get, length, ◌%◌, if◌then◌else◌, Option, Some, None}
use Rattle.std.specs.Option.{option_and_then}
use Rattle.mips_instructions.specs.Words.{address}
use Rattle.task_descriptor.specs.Listing.{Listing}
use Rattle.machine_model.specs.Machine.{Active, task_at}
use Rattle.machine_model.specs.Step.{is_listed}
use Rattle.machine_model.specs.HeadEvent.{task_beginning}
use Rattle.machine_model.specs.declared.event.Spot.{Spot}
use Rattle.machine_model.specs.declared.event.Spot.TheVariants.{Inside, Stopped}

-- the targets of a tail that has not stopped
abbrev pub targets_at : Listing → (task : ℕ) → Spot → List ℕ
targets_at p task (Inside index) = (task_at p task).targets
targets_at p task (Stopped at) = []

abbrev pub targets_behind : Listing → Option Active → List ℕ
targets_behind p None = []
targets_behind p (Some tail) = targets_at p tail.task tail.place

-- the task that begins at the target with this index, modulo the number of targets
abbrev pub task_chosen : Listing → (targets : List ℕ) → (answer : ℕ) → Option ℕ
task_chosen p targets answer =
    option_and_then (λ target. task_beginning p (address target)) (slice_get targets (answer % length targets))

-- the task that may follow a tail; where the tail has not stopped, the answer chooses it
abbrev pub task_at_spot : Listing → (tail : ℕ) → Spot → (answer : ℕ) → Option ℕ
task_at_spot p tail (Inside index) answer = task_chosen p (task_at p tail).targets answer
task_at_spot p tail (Stopped at) answer = if is_listed p tail at then task_beginning p at else None

abbrev pub task_behind : Listing → (next : ℕ) → Option Active → (answer : ℕ) → Option ℕ
task_behind p next None answer = task_beginning p next
task_behind p next (Some tail) answer = task_at_spot p tail.task tail.place answer
