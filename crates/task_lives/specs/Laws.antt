-- The theorems about lives, as statements over every program and history.
use Rattle.std.specs.Prelude.{ℕ, List}
use Rattle.task_descriptor.specs.Listing.{Listing}
use Rattle.machine_model.specs.Machine.{State}
use Rattle.machine_model.specs.Replay.{Replays}
use Rattle.machine_model.specs.declared.event.Event.{Event}
use Rattle.task_lives.specs.Lives.{AllFit, lives_of}
use Rattle.task_lives.specs.Sums.{AddUp}

-- every history that the machine allows fits
abbrev pub HistoriesFit : Type 0
HistoriesFit =
    (p : Listing) (units : ℕ) (history : List Event) (s : State) → Replays p units history s → AllFit 0 history

-- the lives of every history that the machine allows add up
abbrev pub LivesAddUp : Type 0
LivesAddUp =
    (p : Listing) (units : ℕ) (history : List Event) (s : State) → Replays p units history s → AddUp history s (lives_of units history)
