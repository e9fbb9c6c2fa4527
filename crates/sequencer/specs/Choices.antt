-- What may be assigned next: the targets of a tail that is still running, else the one task that may
-- follow.
use Rattle.std.specs.Prelude.{◌≡◌, ℕ, ◌<◌, List, [], length, true, if◌then◌else◌, Option, None}
use Rattle.std.specs.Option.{option_map}
use Rattle.std.specs.List.{last_or}
use Rattle.task_descriptor.specs.Listing.{Listing}
use Rattle.machine_model.specs.Machine.{State}
use Rattle.machine_model.specs.Step.{follows}
use Rattle.machine_model.specs.Answer.{is_running}
use Rattle.machine_model.specs.declared.event.Event.{Event}
use Rattle.machine_model.specs.declared.event.Event.TheVariants.{Assign}
use Rattle.processor_steps.specs.Choices.{targets_behind, task_behind}

-- the targets to choose from; none once the run has ended
abbrev pub choices_of : Listing → State → List ℕ
choices_of p s = if is_running s.outcome then targets_behind p (last_or None s.queue) else []

-- the Assign of the task that may come next, by the answer
abbrev pub choice_of : Listing → State → (answer : ℕ) → Option Event
choice_of p s answer =
    if is_running s.outcome then option_map Assign (task_behind p s.next (last_or None s.queue) answer) else None

-- the task is one that may follow the tail, or begin on an empty queue, by the machine step
abbrev pub MayFollow : Listing → State → (t : ℕ) → Type 0
MayFollow p s t = (t < length p.tasks) × (follows p s.next t (last_or None s.queue) ≡ true)
