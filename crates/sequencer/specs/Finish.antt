-- A run by head events, and how it stops at one that is refused.
use Rattle.std.specs.Prelude.{◌≡◌, ℕ, ◌<◌, ◌⊎◌, List, [], ◌∷◌, length, true, Some}
use Rattle.task_descriptor.specs.Listing.{Listing}
use Rattle.machine_model.specs.Machine.{State}
use Rattle.machine_model.specs.Step.{Next}
use Rattle.machine_model.specs.Answer.{most_events}
use Rattle.machine_model.specs.Claims.{count_h}
use Rattle.machine_model.specs.HeadEvent.{head_event}
use Rattle.machine_model.specs.declared.event.Event.{Event}
use Rattle.machine_model.specs.declared.event.Refused.{Refused}
use Rattle.machine_model.specs.declared.event.Refused.TheVariants.{Full, OutOfMemory}
use Rattle.processor_steps.specs.Processors.{takes_memory}
use Rattle.sequencer.specs.Machines.{MachineView, state}

-- each event is the head event where h is below a goal, and leaves the next state by the machine step
abbrev pub RunsByHead : Listing → (units goal : ℕ) → State → List Event → State → Type 0
RunsByHead p units goal s [] s' = s' ≡ s
RunsByHead p units goal s (e ∷ es) s' =
    (mid : State) × (count_h s < goal) × (head_event p s ≡ Some e) × Next p units s e mid × RunsByHead p units goal mid es s'

-- a machine whose head event is refused, by Full where the history has no room left; else it takes
-- memory, and is refused by OutOfMemory
pub record IsHeadRefused (m : MachineView) (why : Refused) : Type 0 where
  pub event : Event
  pub is_head_event : head_event m.accepted.program (state m) ≡ Some event
  pub refused :
      ((why ≡ Full) × (length m.history ≡ most_events))
      ⊎ ((why ≡ OutOfMemory) × (takes_memory event ≡ true) × (length m.history < most_events))
