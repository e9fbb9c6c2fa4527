-- What the signals of a waveform show. A signal that shows no number has None.
use Rattle.std.specs.Prelude.{ℕ, zero, suc, ◌+◌, ◌-◌, ◌*◌, ◌^◌, ◌%◌, Bool, nat_eq, if◌then◌else◌, List, [], ◌∷◌, ◌++◌, length, slice_get, flat_map, is_some, Option, Some, None}
use Rattle.std.specs.List.{range_with_len}
use Rattle.task_descriptor.specs.Listing.{Listing}
use Rattle.machine_model.specs.Machine.{Active, State, Words}
use Rattle.machine_model.specs.Claims.{count_c, count_h}
use Rattle.machine_model.specs.declared.event.Event.{Event}
use Rattle.machine_model.specs.declared.event.Spot.{Spot}
use Rattle.machine_model.specs.declared.event.Spot.TheVariants.{Inside, Stopped}
use Rattle.unit_waits.specs.declared.waiting.Reason.{Reason}
use Rattle.unit_waits.specs.declared.waiting.Reason.TheVariants.{NeedsRegister, NeedsHead, HasToPass, HasFinished, CouldGoOn}
use Rattle.unit_waits.specs.Reasons.{unit_at, reason_of}
use Rattle.unit_waits.specs.Waits.{acts}

-- what a signal shows
abbrev pub Shown : Type 0
Shown = Option ℕ

-- ---- the ring

-- the last word that was put out
abbrev pub last_word : State → Shown
last_word s = slice_get s.output (length s.output - 1)

-- the number of the head's unit, the retired tasks, their instructions, these with the head's, the words that were
-- put out, and the last of them
abbrev pub ring_signals : (units : ℕ) → State → List Shown
ring_signals units s =
    Some (unit_at units s 0)
    ∷ Some (length s.commits)
    ∷ Some (count_c s)
    ∷ Some (count_h s)
    ∷ Some (length s.output)
    ∷ last_word s
    ∷ []

-- ---- a unit

-- the number of `bits` bits whose bit r is 1 where r passes a test
abbrev pub bits_below : (ℕ → Bool) → (bits : ℕ) → ℕ
bits_below test zero = 0
bits_below test (suc r) = (if test r then 1 else 0) * 2 ^ r + bits_below test r

-- the registers that have a word: register r is bit r
unfoldable pub mask_of : Words → ℕ
mask_of words = bits_below (λ r. is_some (words r)) 34

-- the index of the instruction where a unit stands, if it has not stopped
abbrev pub index_of : Spot → Shown
index_of (Inside index) = Some index
index_of (Stopped exit) = None

-- 1 inside its task, 2 stopped; a free unit has 0
abbrev pub phase_of : Spot → ℕ
phase_of (Inside index) = 1
phase_of (Stopped exit) = 2

-- the number of a reason to wait, and the register that is waited for
abbrev pub by_reason : Reason → ℕ × Shown
by_reason (NeedsRegister r owed) = ((if owed.is_sent then 2 else 1), Some r)
by_reason NeedsHead = (3, None)
by_reason (HasToPass r owed) = (4, Some r)
by_reason HasFinished = (5, None)
by_reason CouldGoOn = (0, None)

-- why the unit at a position waits in a step with these events, as `by_reason` gives it; the head and a unit that
-- does one of them do not wait
abbrev pub wait_of : Listing → (units : ℕ) → State → List Event → (k : ℕ) → Active → ℕ × Shown
wait_of p units s events k u =
    if nat_eq k 0 then (0, None)
    else if acts (length s.queue) k events then (0, None)
    else by_reason (reason_of p units s k u)

-- its task, where it stands, whether it waits and for which register, and which registers arrived and were sent
abbrev pub signals_at_work : Active → (wait : ℕ × Shown) → List Shown
signals_at_work u wait =
    Some u.task
    ∷ index_of u.place
    ∷ Some (phase_of u.place)
    ∷ Some wait.0
    ∷ wait.1
    ∷ Some (mask_of u.arrived)
    ∷ Some (mask_of u.sent)
    ∷ []

abbrev pub signals_free : List Shown
signals_free = None ∷ None ∷ Some 0 ∷ Some 0 ∷ None ∷ None ∷ None ∷ []

-- of the unit at a position, if one is at work there
abbrev pub signals_at : Listing → (units : ℕ) → State → List Event → (k : ℕ) → Option Active → List Shown
signals_at p units s events k None = signals_free
signals_at p units s events k (Some u) = signals_at_work u (wait_of p units s events k u)

-- the position of the unit with a given number round the ring
abbrev pub position_of : (units : ℕ) → State → (unit : ℕ) → ℕ
position_of units s unit = (unit + (units - unit_at units s 0)) % units

abbrev pub unit_signals : Listing → (units : ℕ) → State → List Event → (unit : ℕ) → List Shown
unit_signals p units s events unit =
    signals_at p units s events (position_of units s unit) (slice_get s.queue (position_of units s unit))

-- ---- all signals, in a state and a step with these events that begins with it: of the ring, and then of each
-- unit by its number round the ring
abbrev pub signals : Listing → (units : ℕ) → State → List Event → List Shown
signals p units s events =
    ring_signals units s ++ flat_map (unit_signals p units s events) (range_with_len 0 units)
