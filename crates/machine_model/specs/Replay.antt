-- Replays: what a list of events leaves, each allowed where it comes.
use Rattle.std.specs.Prelude.{◌≡◌, ℕ, List, [], ◌∷◌}
use Rattle.task_descriptor.specs.Listing.{Listing}
use Rattle.machine_model.specs.Machine.{State, opening}
use Rattle.machine_model.specs.Step.{Next}
use Rattle.machine_model.specs.declared.event.Event.{Event}

-- s' is what the events leave, one after another, each allowed where it comes
abbrev pub ReplaysFrom : Listing → (units : ℕ) → State → List Event → State → Type 0
ReplaysFrom p units s [] s' = s' ≡ s
ReplaysFrom p units s (e ∷ es) s' = (mid : State) × Next p units s e mid × ReplaysFrom p units mid es s'

abbrev pub Replays : Listing → (units : ℕ) → List Event → State → Type 0
Replays p units events s = ReplaysFrom p units (opening p) events s
