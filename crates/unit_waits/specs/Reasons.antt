-- What keeps a unit after the head from continuing: the first refusal of its next instruction, or, where it has
-- stopped, what it still has to send.
use Rattle.std.specs.Prelude.{ℕ, zero, suc, Bool, true, false, if◌then◌else◌, List, length, slice_get, is_some, is_none, Option, Some, None}
use Rattle.task_descriptor.specs.Listing.{Listing}
use Rattle.machine_model.specs.Machine.{Active, State, creates, pass, value}
use Rattle.machine_model.specs.Refusals.{least}
use Rattle.machine_model.specs.Unit.{exec_refusal}
use Rattle.machine_model.specs.HeadEvent.{unit_of}
use Rattle.machine_model.specs.declared.event.Event.TheVariants.{Exec}
use Rattle.machine_model.specs.declared.event.Refused.{Refused}
use Rattle.machine_model.specs.declared.event.Refused.TheVariants as refused
use Rattle.unit_waits.specs.declared.waiting.Owed.{Owed}
use Rattle.unit_waits.specs.declared.waiting.Reason.{Reason}
use Rattle.unit_waits.specs.declared.waiting.Reason.TheVariants.{NeedsRegister, NeedsHead, HasToPass, HasFinished, CouldGoOn}

-- the number round the ring of the unit at a position
abbrev pub unit_at : (units : ℕ) → State → (k : ℕ) → ℕ
unit_at units s k = unit_of units (length s.commits) (length s.queue) (Exec k)

-- Who owes a register to the unit at a position: the nearest unit ahead of it whose task may produce the
-- register; the head, which has them all, if no task does. It has sent the register if it passes it on.

abbrev pub may_produce : Listing → (r : ℕ) → Option Active → Bool
may_produce p r None = false
may_produce p r (Some u) = creates p u.task r

abbrev pub position_owing : Listing → List Active → (r k : ℕ) → ℕ
position_owing p us r zero = 0
position_owing p us r (suc k) = if may_produce p r (slice_get us k) then k else position_owing p us r k

abbrev pub owed_by : Listing → (unit r : ℕ) → Option Active → Owed
owed_by p unit r None = record { unit = unit; task = 0; is_sent = false }
owed_by p unit r (Some u) = record { unit = unit; task = u.task; is_sent = is_some (pass p u r) }

-- what the unit at a position owes for a register
abbrev pub owed_at : Listing → (units : ℕ) → State → (r k : ℕ) → Owed
owed_at p units s r k = owed_by p (unit_at units s k) r (slice_get s.queue k)

-- what the unit at a position is owed for a register
abbrev pub owed_to : Listing → (units : ℕ) → State → (r k : ℕ) → Owed
owed_to p units s r k = owed_at p units s r (position_owing p s.queue r k)

-- what holds back a unit that has stopped, by the least register that it has not sent
abbrev pub reason_to_stay : Listing → (units : ℕ) → State → (k : ℕ) → Active → Option ℕ → Reason
reason_to_stay p units s k u None = HasFinished
reason_to_stay p units s k u (Some r) = if is_none (value u r) then HasToPass r (owed_to p units s r k) else CouldGoOn

abbrev pub unsent : Listing → Active → Option ℕ
unsent p u = least (creates p u.task) (λ r. is_none (u.sent r))

-- what holds back a unit, by what refuses its next instruction
abbrev pub reason_by : Listing → (units : ℕ) → State → (k : ℕ) → Active → Option Refused → Reason
reason_by p units s k u None = CouldGoOn
reason_by p units s k u (Some (refused.Waiting r)) = NeedsRegister r (owed_to p units s r k)
reason_by p units s k u (Some refused.NotHead) = NeedsHead
reason_by p units s k u (Some other) = reason_to_stay p units s k u (unsent p u)

-- what holds back the unit at a position, which is not the head
abbrev pub reason_of : Listing → (units : ℕ) → State → (k : ℕ) → Active → Reason
reason_of p units s k u = reason_by p units s k u (exec_refusal p false u)
