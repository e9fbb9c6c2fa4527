-- A unit's log only grows, so in one machine a serial number and a length tell a log.
use Rattle.std.specs.Prelude.{◌≡◌, ℕ, ◌++◌, List, length, slice_get, Some}
use Rattle.mips_plain.specs.declared.outcome.Read.{Read}
use Rattle.task_descriptor.specs.Listing.{Listing}
use Rattle.machine_model.specs.Machine.{Active, State}
use Rattle.machine_model.specs.Replay.{Replays}
use Rattle.machine_model.specs.declared.event.Event.{Event}

-- a unit at work after some events, and one with the same serial number after more events
pub record SameSerial (p : Listing) (units : ℕ) (earlier later : Active) : Type 0 where
  pub events : List Event
  pub before : State
  pub replay : Replays p units events before
  pub position : ℕ
  pub is_unit : slice_get before.queue position ≡ Some earlier
  pub more : List Event
  pub after : State
  pub replay_on : Replays p units (events ++ more) after
  pub position_after : ℕ
  pub is_unit_after : slice_get after.queue position_after ≡ Some later
  pub same : earlier.serial ≡ later.serial

-- the later log is the earlier one with reads appended
abbrev pub LogsGrow : Type 0
LogsGrow =
    (p : Listing) (units : ℕ) (earlier later : Active) → SameSerial p units earlier later → (reads : List Read) × (later.log ≡ earlier.log ++ reads)

-- so logs of one length are equal
abbrev pub LengthTellsLog : Type 0
LengthTellsLog =
    (p : Listing) (units : ℕ) (earlier later : Active) → SameSerial p units earlier later → length earlier.log ≡ length later.log → earlier.log ≡ later.log
