-- Worked examples, computed by the checker: the values of a unit's registers, what it waits for, what
-- keeps it from sending, which registers may still be written, and what arrived during a burst.
use Rattle.std.specs.Prelude.{◌≡◌, ℕ, pos, true, false, [], ◌∷◌, ◌++◌, replicate, Some, None}
use Rattle.std.specs.List.{range_with_len}
use Rattle.std.proofs.Common.{refl, ap, arith, inl, inr}
use Rattle.std.proofs.lemmas.Bool.Decides.{nat_tests}
use Rattle.mips_plain.specs.MemoryMap.{region, effective}
use Rattle.mips_instructions.specs.declared.instruction.ThreeKind.TheVariants.{Addu}
use Rattle.mips_instructions.specs.declared.instruction.LoadKind.TheVariants.{Lw}
use Rattle.mips_instructions.specs.declared.instruction.StoreKind.TheVariants.{Sw}
use Rattle.mips_instructions.specs.declared.instruction.Op.TheVariants.{Three, Load, Store, Release, Out, Halt}
use Rattle.task_descriptor.specs.Listing.{Listing}
use Rattle.mark_checker.specs.Places.{Checked}
use Rattle.machine_model.specs.Machine.{Active, value}
use Rattle.machine_model.specs.Unit.{put, exec_refusal, drain_refusal, with_log}
use Rattle.machine_model.specs.Refusals.{least}
use Rattle.machine_model.specs.Burst.{with_arrived}
use Rattle.machine_model.specs.Examples.{bare, task, count}
use Rattle.machine_model.specs.declared.event.Refused.TheVariants as refused
use Rattle.machine_model.specs.declared.event.Spot.{Spot}
use Rattle.machine_model.specs.declared.event.Spot.TheVariants.{Inside, Stopped}
use Rattle.unit_core.specs.Units.{UnitView, active_of}
use Rattle.unit_core.specs.Bursts.{HasMore, EndsFor}
use Rattle.unit_core.specs.SentRegisters.{mask_has}
use Rattle.unit_core.specs.declared.wait.Wait.TheVariants as wait

-- A unit of the first task. For register r of these sets 100 + r has arrived, it wrote 200 + r, and it
-- sent 300 + r; register 0 has arrived with 0.
abbrev pub unit : (place : Spot) → (arrived local sent : ℕ) → UnitView
unit place arrived local sent = record {
  task = 0;
  serial = 0;
  place = place;
  port = record {
    arrived = record { set = arrived; words = 0 ∷ range_with_len 101 33 };
    sent = record { set = sent; words = range_with_len 300 34 };
  };
  local = record { set = local; words = range_with_len 200 34 };
  log = [];
}

-- all registers but 8, 9 and 10, which are reserved
abbrev pub but_three : ℕ
but_three = 0x3FFFFF8FF

-- a unit that wrote registers 7, 8 and LO
abbrev pub at_work : Active
at_work = active_of (unit (Inside 1) but_three 0x200000180 0)

-- register 0 has 0, even where nothing has arrived
pub value_of_zero : value (active_of (unit (Inside 0) 0 0 0)) 0 ≡ Some 0
value_of_zero = refl

-- what the unit wrote itself comes before what arrived, and a reserved register has a value once the
-- unit wrote it
pub value_written : value at_work 7 ≡ Some 207
value_written = refl

pub value_written_first : value at_work 8 ≡ Some 208
value_written_first = refl

pub value_arrived : value at_work 6 ≡ Some 106
value_arrived = refl

pub value_reserved : value at_work 9 ≡ None
value_reserved = refl

-- words are moved, output and sent; register 8 has the address
abbrev pub moves : Listing
moves = record {
  code = bare (Load Lw 9 8 (pos 0)) ∷ bare (Store Sw 11 8 (pos 0)) ∷ bare (Three Addu 9 10 9) ∷ bare (Release 0x600) ∷ bare (Out 9) ∷ bare Halt ∷ [];
  bytes = [];
  fixed = [];
  tasks = task 0 0x600 [] ∷ [];
  start = 0;
}

-- a unit before an instruction, to which all registers but 9 and 10 have arrived: register 8 with this
-- address, any other with 0
abbrev pub addressed : (index address : ℕ) → Active
addressed index address = active_of (record {
  task = 0;
  serial = 0;
  place = Inside index;
  port = record {
    arrived = record { set = 0x3FFFFF9FF; words = replicate 8 0 ++ (address ∷ replicate 25 0) };
    sent = record { set = 0; words = replicate 34 0 };
  };
  local = record { set = 0; words = replicate 34 0 };
  log = [];
})

-- a unit that has stopped executes nothing, not even as the head
pub has_stopped : exec_refusal moves true (active_of (unit (Stopped 0x400018) but_three 0 0)) ≡ Some refused.Stopped
unfolding least
has_stopped = refl

-- `addu $9,$10,$9` waits for the least of its registers, and `release $9,$10` for each of its own
pub waits_for_least : exec_refusal moves true (addressed 2 0) ≡ Some (refused.Waiting 9)
unfolding least
waits_for_least = refl

pub release_waits : exec_refusal moves true (addressed 3 0) ≡ Some (refused.Waiting 9)
unfolding least
release_waits = refl

-- `out $9` waits for its register first, and only then for the head
pub register_first : exec_refusal moves false (addressed 4 0) ≡ Some (refused.Waiting 9)
unfolding least
register_first = refl

pub halt_behind : exec_refusal moves false (addressed 5 0) ≡ Some refused.NotHead
unfolding least
halt_behind = refl

-- the last word of read-only data is loaded ahead of the head
pub load_ahead : exec_refusal moves false (addressed 0 0x1000FFFC) ≡ None
unfolding least region effective
load_ahead = refl

-- the first word of data memory is not, nor is anything but a whole word of read-only data
pub load_behind : exec_refusal moves false (addressed 0 0x10010000) ≡ Some refused.NotHead
unfolding least region effective
load_behind = refl

pub unaligned_behind : exec_refusal moves false (addressed 0 0x10000002) ≡ Some refused.NotHead
unfolding least region effective
unaligned_behind = refl

pub load_at_head : exec_refusal moves true (addressed 0 0x10010000) ≡ None
unfolding least
load_at_head = refl

-- a store waits for the head at any address
pub store_behind : exec_refusal moves false (addressed 1 0x10010000) ≡ Some refused.NotHead
unfolding least region effective
store_behind = refl

pub store_fixed_behind : exec_refusal moves false (addressed 1 0x10000000) ≡ Some refused.NotHead
unfolding least region effective
store_fixed_behind = refl

-- Task A of `count` wrote registers 8, 9 and 10 of its create mask and sent 8 and 9. A register outside
-- the mask is refused before all else, then a unit that has not stopped, then what has been sent
pub drain_outside : drain_refusal count (active_of (unit (Inside 3) but_three 0x700 0x300)) 7 ≡ Some refused.NoSuch
drain_outside = refl

pub drain_early : drain_refusal count (active_of (unit (Inside 3) but_three 0x700 0x300)) 8 ≡ Some refused.NotStopped
drain_early = refl

pub drain_again : drain_refusal count (active_of (unit (Stopped 0x400000) but_three 0x700 0x300)) 8 ≡ Some refused.AlreadyThere
drain_again = refl

pub drain_allowed : drain_refusal count (active_of (unit (Stopped 0x400000) but_three 0x700 0x300)) 10 ≡ None
drain_allowed = refl

-- with register 7, which the task does not write, in the create mask too: while reserved it has no value
pub drain_reserved :
    drain_refusal (record count { tasks = task 0 0x780 (0 ∷ 4 ∷ []) ∷ [] }) (active_of (unit (Stopped 0x400000) 0x3FFFFF87F 0x700 0x300)) 7
    ≡ Some (refused.NotYet 7)
drain_reserved = refl

-- the certificate of `count`: register 8 may still be written at index 0, but not after it
abbrev pub checked : Checked
checked = record {
  program = count;
  cert = ((0, 0x700) ∷ (1, 0x600) ∷ (2, 0x400) ∷ (3, 0) ∷ []) ∷ ((4, 0) ∷ (5, 0) ∷ []) ∷ [];
}

pub still_written : mask_has checked 0 0 8 ≡ true
still_written = refl

pub written_no_more : mask_has checked 0 1 8 ≡ false
written_no_more = refl

pub without_mask : mask_has checked 0 4 8 ≡ false
without_mask = refl

-- during a burst register 9 may arrive
pub arrived_since : HasMore at_work 0 (with_arrived at_work (put 9 5 at_work.arrived))
arrived_since = record { more = λ r word is. grind (arith, nat_tests, is); is = refl; log = refl }

-- but no register may arrive again with another word, nor may the unit write in the meantime
pub arrived_anew : HasMore at_work 0 (with_arrived at_work (put 6 5 at_work.arrived)) → ⊥
arrived_anew has = let e = has.more 6 106 refl in cc

pub written_since : HasMore at_work 0 (record at_work { local = put 9 5 at_work.local }) → ⊥
written_since has = let e = ap (λ (u : Active). u.local 9) has.is in cc

-- nor may it read, even where all else is as it was
pub read_since : HasMore at_work 0 (with_log at_work (record { pc = 0x400000; a = 0; b = 0 } ∷ [])) → ⊥
read_since has = absurd (omega (arith, has.log))

-- of 64 steps that were asked for four were made, and the unit has stopped: only that may be given as the reason
abbrev pub at_stop : Active
at_stop = active_of (unit (Stopped 0x400018) but_three 0 0)

pub ends_at_stop : EndsFor moves at_stop 64 4 (Some wait.Stopped)
unfolding least
ends_at_stop = (omega arith, inl refl)

pub ends_for_nothing : EndsFor moves at_stop 64 4 None → ⊥
ends_for_nothing ends = absurd (omega (arith, ends))

pub ends_for_another : EndsFor moves at_stop 64 4 (Some wait.NotHead) → ⊥
unfolding least
ends_for_another ends = elim ends.1 [ inl other ↦ cc | inr none ↦ let e = none.0 in cc ]

-- memory may be lacking only where the unit could execute
pub ends_for_memory : EndsFor moves at_stop 64 4 (Some wait.OutOfMemory) → ⊥
unfolding least
ends_for_memory ends = elim ends.1 [ inl other ↦ cc | inr none ↦ let e = none.1 in cc ]
