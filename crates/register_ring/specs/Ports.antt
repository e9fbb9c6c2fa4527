-- What stands between a unit and its neighbours on the ring (ISCA 1995, section 2.2; the form is ours):
-- the registers that arrived from its predecessor, and those that it sent on.
use Rattle.std.specs.Prelude.{ℕ, List, nat_lt, if◌then◌else◌, slice_index, Some, None}
use Rattle.std.specs.Option.{option_or}
use Rattle.mips_instructions.specs.Words.{has}
use Rattle.machine_model.specs.Machine.{Words}
use Rattle.register_ring.specs.Held.{Held, pairs}

pub record Ports : Type 0 where
  pub arrived : Held
  pub sent : Held

-- what arrived; a number that is not a register stands for one that arrived with 0
abbrev pub arrived_of : Ports → Words
arrived_of port r = if nat_lt r 34 then pairs port.arrived r else Some 0

abbrev pub sent_of : Ports → Words
sent_of port r = pairs port.sent r

-- a register of the accumulated mask is reserved, and any other arrives with its word at once
abbrev pub arrived_fresh : (words : List ℕ) → (accum : ℕ) → Words
arrived_fresh words accum r = if has accum r then None else Some (slice_index words r)

-- what arrived, and for each other register its word from these
abbrev pub filled_with : (words : List ℕ) → Words → Words
filled_with words arrived r = option_or (arrived r) (Some (slice_index words r))

-- what is passed on: a register of the create mask as it was sent, any other as it arrived
abbrev pub passed : (create : ℕ) → Ports → Words
passed create port r = if has create r then sent_of port r else arrived_of port r
