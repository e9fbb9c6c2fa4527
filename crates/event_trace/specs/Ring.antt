-- The units round the ring: each keeps its number there, while the head moves on by one at each task
-- that retires.
use Rattle.std.specs.Prelude.{ℕ, ◌+◌, ◌%◌, length}
use Rattle.machine_model.specs.Machine.{State}

-- the number of the head, and how many units there are
pub record RingView : Type 0 where
  pub head : ℕ
  pub units : ℕ

-- the ring of `units` units in a state
abbrev pub ring_in : (units : ℕ) → State → RingView
ring_in units s = record { head = length s.commits % units; units = units }

-- the number of the unit at a position from the head
abbrev pub number_at : RingView → (position : ℕ) → ℕ
number_at ring k = (ring.head + k) % ring.units
