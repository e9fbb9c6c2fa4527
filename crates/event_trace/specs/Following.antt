-- A walk over events: how a machine goes on from event to event.
use Rattle.std.specs.Prelude.{◌≡◌, ℕ, List, [], ◌∷◌, length}
use Rattle.task_descriptor.specs.Listing.{Listing}
use Rattle.machine_model.specs.Answer.{answer}
use Rattle.machine_model.specs.Machine.{State}
use Rattle.machine_model.specs.declared.event.Event.{Event}
use Rattle.sequencer.specs.Machines.{MachineView, SameRing, answer_to, state}
use Rattle.event_trace.specs.Entries.{count_behind, state_behind}

-- a machine before an event, and the machine after it, whatever its answer was
pub record GoesOn (m : MachineView) (e : Event) (m' : MachineView) : Type 0 where
  pub state : state m' ≡ state_behind m.accepted.program (state m) e (answer_to m e)
  pub count : length m'.history ≡ count_behind (length m.history) (answer_to m e)
  pub kept : SameRing m m'

-- the state that events leave from one on, with n events allowed before them: that of `play`, without its answers
abbrev pub state_from : Listing → (units n : ℕ) → State → List Event → State
state_from p units n s [] = s
state_from p units n s (e ∷ es) =
    state_from p units (count_behind n (answer p units s n e)) (state_behind p s e (answer p units s n e)) es
