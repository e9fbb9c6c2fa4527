-- A machine with the events that changed it, as contracts see it.
use Rattle.std.specs.Prelude.{◌≡◌, ℕ, ◌≤◌, List, length}
use Rattle.task_descriptor.specs.Listing.{Listing}
use Rattle.machine_model.specs.Answer.{most_events}
use Rattle.machine_model.specs.Replay.{Replays}
use Rattle.machine_model.specs.declared.event.Event.{Event}
use Rattle.open_machine.specs.Machines.{OpenView, state, units_of}
use Rattle.demonstration.specs.Rounds.{state_after}

pub record DrivenView : Type 0 where
  pub program : Listing
  pub units : ℕ
  pub run : List Event

abbrev pub driven_of : OpenView → List Event → DrivenView
driven_of m events = record { program = m.program; units = units_of m; run = events }

-- what each of them keeps: the machine's state is what its events leave, each allowed where it comes
pub record IsDriven (m : OpenView) (events : List Event) : Type 0 where
  pub counted : m.count ≡ length events
  pub room : length events ≤ most_events
  pub leaves : state m ≡ state_after m.program events
  pub replays : Replays m.program (units_of m) events (state_after m.program events)
