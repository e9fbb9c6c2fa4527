-- The theorems about changes, as statements over every program, number of units and event.
use Rattle.std.specs.Prelude.{◌≡◌, ℕ, List}
use Rattle.std.specs.List.{fold}
use Rattle.task_descriptor.specs.Listing.{Listing}
use Rattle.machine_model.specs.Machine.{State, opening}
use Rattle.machine_model.specs.Replay.{Replays, ReplaysFrom}
use Rattle.machine_model.specs.Step.{Next}
use Rattle.machine_model.specs.declared.event.Event.{Event}
use Rattle.task_lives.specs.Lives.{lives_of}
use Rattle.event_trace.specs.Changes.{changes_of}
use Rattle.event_trace.specs.LivesTold.{lives_told}
use Rattle.event_trace.specs.Seen.{changes_through, seen, with_changes}

-- what is seen before an event that is allowed is with its changes what is seen after it
abbrev pub ChangesAreTheStep : Type 0
ChangesAreTheStep =
    (p : Listing) (units : ℕ) (s s' : State) (e : Event) → Next p units s e s' → seen s' ≡ with_changes (seen s) (changes_of p s e s')

-- and so it is over all events of a history, or of a part of one
abbrev pub ChangesAreTheRun : Type 0
ChangesAreTheRun =
    (p : Listing) (units : ℕ) (s s' : State) (events : List Event) → ReplaysFrom p units s events s' → seen s' ≡ fold with_changes (seen s) (changes_through p s events)

-- and the lives of a whole history are those that its changes tell
abbrev pub LivesAreOfChanges : Type 0
LivesAreOfChanges =
    (p : Listing) (units : ℕ) (history : List Event) (s : State) → Replays p units history s → lives_of units history ≡ lives_told units (changes_through p (opening p) history)
