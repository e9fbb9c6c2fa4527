-- What an event changed, read off the state before it, s, and the state after it, s'.
use Rattle.std.specs.Prelude.{ℕ, suc, List, [], ◌∷◌, ◌++◌, Bool, false, nat_eq, not, ◌&&◌, ◌%◌, ◌^◌, if◌then◌else◌, flat_map, length, drop, slice_get, is_some, unwrap_or, Option, Some, None}
use Rattle.std.specs.List.{range_with_len}
use Rattle.mips_plain.specs.MemoryMap.{byte_of, effective}
use Rattle.mips_instructions.specs.Instruction.{dests, reg_a, reg_b}
use Rattle.mips_instructions.specs.InstructionTable.{store_size}
use Rattle.mips_plain.specs.Access.{load_at}
use Rattle.mips_instructions.specs.declared.instruction.Op.{Op}
use Rattle.mips_instructions.specs.declared.instruction.Op.TheVariants.{Load, Store, Out}
use Rattle.task_descriptor.specs.Listing.{Listing}
use Rattle.task_descriptor.specs.declared.descriptor.Marked.{Marked}
use Rattle.machine_model.specs.Machine.{Active, State}
use Rattle.machine_model.specs.Answer.{exit_of, index_of_place, instruction_at, operand}
use Rattle.machine_model.specs.declared.event.Event.{Event}
use Rattle.machine_model.specs.declared.event.Event.TheVariants as event
use Rattle.machine_model.specs.declared.event.Spot.{Spot}
use Rattle.machine_model.specs.declared.event.Spot.TheVariants.{Inside, Stopped}
use Rattle.machine_model.specs.declared.event.Standing.{Standing}
use Rattle.machine_model.specs.declared.event.Standing.TheVariants as standing
use Rattle.event_trace.specs.declared.change.Change.{Change}
use Rattle.event_trace.specs.declared.change.Change.TheVariants.{AtUnit, Took, Loaded, Stored, Wrote, Sent, PutOut, MovedTo, StoppedAt, Ended}
use Rattle.event_trace.specs.declared.unit_change.UnitChange.{UnitChange}
use Rattle.event_trace.specs.declared.unit_change.UnitChange.TheVariants.{Began, Executed, Arrived, Drained, Squashed, Dropped, Retired, BecameHead}

-- how many registers there are
unfoldable pub register_count : ℕ
register_count = 34

-- a change for each register of a set, the least first
abbrev pub for_registers : (ℕ → Bool) → (ℕ → Change) → List Change
for_registers set change = flat_map (λ r. if set r then change r ∷ [] else []) (range_with_len 0 register_count)

-- where a unit stands
abbrev pub stands_at : Spot → Change
stands_at (Inside index) = MovedTo index
stands_at (Stopped at) = StoppedAt at

-- ---- an instruction

abbrev pub load_of : (at : ℕ) → Option ℕ → List Change
load_of at None = []
load_of at (Some word) = Loaded at word ∷ []

-- what an instruction with the operands a and b does outside the registers
abbrev pub outside : Op → (a b : ℕ) → (fixed memory : ℕ → ℕ) → List Change
outside (Load kind rt base n) a b fixed memory = load_of (effective a n) (load_at (Load kind rt base n) (effective a n) fixed memory)
outside (Store kind rt base n) a b fixed memory = Stored (effective a n) (b % 256 ^ store_size kind) (store_size kind) ∷ []
outside (Out rs) a b fixed memory = PutOut a ∷ []
outside op a b fixed memory = []

-- the registers that a unit has sent now, and had not sent before
abbrev pub newly_sent : (u v : Active) → ℕ → Bool
newly_sent u v r = is_some (v.sent r) && not (is_some (u.sent r))

-- what an instruction did to its unit, which was u and is v: what it did outside the registers; the
-- destinations with the words that they have now; the registers that were sent; and where the unit stands
abbrev pub effects : Listing → State → (u v : Active) → Marked → List Change
effects p s' u v m =
    outside m.op (operand u (reg_a m.op)) (operand u (reg_b m.op)) (byte_of p.fixed) s'.memory
    ++ (for_registers (dests m.op) (λ r. Wrote r (operand v r))
    ++ (for_registers (newly_sent u v) (λ r. Sent r (unwrap_or (v.sent r) 0))
    ++ stands_at v.place ∷ []))

-- a halt or a trap ends the run, and does nothing else
abbrev pub unless_ended : Standing → List Change → List Change
unless_ended standing.Running changes = changes
unless_ended ended changes = Ended ended ∷ []

abbrev pub execution : Listing → State → (k : ℕ) → (u v : Active) → Option Marked → List Change
execution p s' k u v None = []
execution p s' k u v (Some m) = AtUnit k u.task (Executed (index_of_place u.place)) ∷ unless_ended s'.outcome (effects p s' u v m)

abbrev pub executed : Listing → State → (k : ℕ) → (before behind : Option Active) → List Change
executed p s' k (Some u) (Some v) = execution p s' k u v (instruction_at p u.place)
executed p s' k before behind = []

-- ---- registers that arrive as a unit takes its task or becomes the head

-- whether a register has arrived; none has where there is no unit
abbrev pub has_arrived : Option Active → ℕ → Bool
has_arrived None r = false
has_arrived (Some u) r = is_some (u.arrived r)

-- whether a register that was not there before has arrived at a unit, with a word other than 0, which all have at
-- the start of a run
abbrev pub takes : (before : ℕ → Bool) → (v : Active) → ℕ → Bool
takes before v r = not (before r) && not (nat_eq (unwrap_or (v.arrived r) 0) 0)

abbrev pub taken : (before : ℕ → Bool) → (v : Active) → List Change
taken before v = for_registers (takes before v) (λ r. Took r (unwrap_or (v.arrived r) 0))

-- ---- the other events: the change of the unit at a position, if there is one

abbrev pub began : (k : ℕ) → Option Active → List Change
began k None = []
began k (Some v) = AtUnit k v.task (Began (index_of_place v.place)) ∷ taken (has_arrived None) v

abbrev pub arrived : (k r : ℕ) → Option Active → List Change
arrived k r None = []
arrived k r (Some v) = AtUnit k v.task (Arrived r (unwrap_or (v.arrived r) 0)) ∷ []

abbrev pub drained : (k r : ℕ) → Option Active → List Change
drained k r None = []
drained k r (Some v) = AtUnit k v.task (Drained r (unwrap_or (v.sent r) 0)) ∷ []

abbrev pub retired : Option Active → List Change
retired None = []
retired (Some u) = AtUnit 0 u.task (Retired (unwrap_or (exit_of u.place) 0)) ∷ []

-- the unit after one that retires: before the event it was at position 1
abbrev pub became_head : (before : ℕ → Bool) → Option Active → List Change
became_head before None = []
became_head before (Some v) = AtUnit 1 v.task BecameHead ∷ taken before v

-- the units that are no longer there, the first of which was at position k
abbrev pub lost : UnitChange → (k : ℕ) → List Active → List Change
lost change k [] = []
lost change k (u ∷ us) = AtUnit k u.task change ∷ lost change (suc k) us

-- ---- any event

abbrev pub changes_of : Listing → State → Event → State → List Change
changes_of p s (event.Assign t) s' = began (length s.queue) (slice_get s'.queue (length s.queue))
changes_of p s (event.Exec k) s' = executed p s' k (slice_get s.queue k) (slice_get s'.queue k)
changes_of p s (event.Transfer k r) s' = arrived k r (slice_get s'.queue k)
changes_of p s (event.Drain k r) s' = drained k r (slice_get s'.queue k)
changes_of p s (event.Squash k) s' = lost Squashed (length s'.queue) (drop (length s'.queue) s.queue)
changes_of p s event.Retire s' = retired (slice_get s.queue 0) ++ became_head (has_arrived (slice_get s.queue 1)) (slice_get s'.queue 0)
changes_of p s event.Fault s' = Ended s'.outcome ∷ []
changes_of p s (event.Drop k) s' = lost Dropped (length s'.queue) (drop (length s'.queue) s.queue)
