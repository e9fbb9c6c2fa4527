-- Worked examples, computed by the checker: why units wait in steps of the loop `count`, and of a task that has
-- to pass a register on.
use Rattle.std.specs.Prelude.{◌≡◌, ℕ, pos, List, [], ◌∷◌, ◌++◌, true, false, slice_get, Option, Some, None}
use Rattle.std.specs.Option.{option_map}
use Rattle.std.proofs.Common.{refl}
use Rattle.mips_instructions.specs.Words.{address, index_of}
use Rattle.mips_plain.specs.MemoryMap.{region, effective}
use Rattle.mips_instructions.specs.declared.instruction.ImmKind.TheVariants.{Addiu}
use Rattle.mips_instructions.specs.declared.instruction.Op.TheVariants.{Imm, BranchTwo, Out, Halt}
use Rattle.mips_instructions.specs.declared.instruction.BranchTwoKind.TheVariants.{Bne}
use Rattle.task_descriptor.specs.Listing.{Listing}
use Rattle.machine_model.specs.Refusals.{least}
use Rattle.machine_model.specs.Answer.{play}
use Rattle.machine_model.specs.Examples.{count, bare, forwards, stops, task}
use Rattle.machine_model.specs.declared.event.Event.{Event}
use Rattle.machine_model.specs.declared.event.Event.TheVariants.{Assign, Exec, Transfer, Drain, Squash, Retire}
use Rattle.machine_model.specs.declared.event.Spot.{Spot}
use Rattle.machine_model.specs.declared.event.Spot.TheVariants.{Inside, Stopped}
use Rattle.unit_waits.specs.declared.waiting.Owed.{Owed}
use Rattle.unit_waits.specs.declared.waiting.Reason.{Reason}
use Rattle.unit_waits.specs.declared.waiting.Reason.TheVariants.{NeedsRegister, NeedsHead, HasToPass, HasFinished, CouldGoOn}
use Rattle.unit_waits.specs.declared.waiting.Waiting.{Waiting}
use Rattle.unit_waits.specs.declared.count.Count.{Count}
use Rattle.unit_waits.specs.Reasons.{reason_of}
use Rattle.unit_waits.specs.Waits.{waits}
use Rattle.unit_waits.specs.Counts.{counts_of}

abbrev owed : (unit task : ℕ) → Owed
owed unit task = record { unit = unit; task = task; is_sent = false }

abbrev wait : (step unit task : ℕ) → Spot → Reason → Waiting
wait step unit task place reason = record { step = step; unit = unit; task = task; place = place; reason = reason }

-- `count` on three units, in steps: in the fourth step the last unit waits for register 8, which the second
-- unit has not sent yet; then it takes it
abbrev five_steps : List Event
five_steps =
    Assign 0 ∷ []
    ++ Assign 0 ∷ Exec 0 ∷ []
    ++ Assign 0 ∷ Transfer 1 8 ∷ Exec 0 ∷ []
    ++ Exec 1 ∷ Exec 0 ∷ []
    ++ Transfer 2 8 ∷ Transfer 1 9 ∷ Exec 0 ∷ []

pub one_waits : waits count 3 five_steps ≡ wait 4 2 0 (Inside 0) (NeedsRegister 8 (owed 1 0)) ∷ []
unfolding address index_of region effective least
one_waits = refl

-- on two units, where the task after the loop is predicted: what puts a word out waits to be the head, until
-- it is squashed
abbrev last_predicted : List Event
last_predicted =
    Assign 0 ∷ []
    ++ Assign 1 ∷ Exec 0 ∷ []
    ++ Transfer 1 8 ∷ Exec 0 ∷ []
    ++ Transfer 1 9 ∷ Exec 0 ∷ []
    ++ Exec 0 ∷ []
    ++ Squash 0 ∷ []

pub waits_for_head : waits count 2 last_predicted ≡ wait 5 1 1 (Inside 4) NeedsHead ∷ wait 6 1 1 (Inside 4) NeedsHead ∷ []
unfolding address index_of region effective least
waits_for_head = refl

pub counted_once : counts_of (waits count 2 last_predicted) ≡ record { first = wait 5 1 1 (Inside 4) NeedsHead; waits = 2 } ∷ []
unfolding address index_of region effective least
counted_once = refl

-- a step that the history does not end does not count
pub not_ended : waits count 3 (five_steps ++ Exec 2 ∷ []) ≡ wait 4 2 0 (Inside 0) (NeedsRegister 8 (owed 1 0)) ∷ []
unfolding address index_of region effective least
not_ended = refl

-- what holds back the unit at a position after some events
abbrev reason_after : Listing → (units k : ℕ) → List Event → Option Reason
reason_after p units k events =
    option_map (reason_of p units (play p units events).state k) (slice_get (play p units events).state.queue k)

-- The second unit has reached its stop. It has a value of register 10 to send; then it has sent all.
abbrev stopped : List Event
stopped = Assign 0 ∷ Assign 0 ∷ Exec 0 ∷ Exec 0 ∷ Transfer 1 8 ∷ Transfer 1 9 ∷ Exec 1 ∷ Exec 1 ∷ Exec 1 ∷ Exec 1 ∷ []

pub has_to_send : reason_after count 3 1 stopped ≡ Some CouldGoOn
unfolding address index_of region effective least
has_to_send = refl

pub has_sent_all : reason_after count 3 1 (stopped ++ Drain 1 10 ∷ []) ≡ Some HasFinished
unfolding address index_of region effective least
has_sent_all = refl

-- Task A sends register 8 at once. Task B may produce it, and stops without writing it
abbrev passed_on : Listing
passed_on = record {
  code = forwards (Imm Addiu 8 0 (pos 1)) ∷ stops (BranchTwo Bne 0 0 0) ∷ stops (BranchTwo Bne 0 0 0) ∷ bare (Out 8) ∷ bare Halt ∷ [];
  bytes = [];
  fixed = [];
  tasks = task 0 0x100 (2 ∷ []) ∷ task 2 0x100 (3 ∷ []) ∷ task 3 0 [] ∷ [];
  start = 0;
}

-- so it waits for the register, to pass it on; and the unit after it waits for what it then passes on
pub has_to_pass : reason_after passed_on 3 1 (Assign 0 ∷ Assign 1 ∷ Assign 2 ∷ Exec 1 ∷ []) ≡ Some (HasToPass 8 (owed 0 0))
unfolding address index_of region effective least
has_to_pass = refl

pub behind_it : reason_after passed_on 3 2 (Assign 0 ∷ Assign 1 ∷ Assign 2 ∷ Exec 1 ∷ []) ≡ Some (NeedsRegister 8 (owed 1 1))
unfolding address index_of region effective least
behind_it = refl

-- once the head has sent it, it is on its way
pub on_its_way : reason_after passed_on 3 1 (Assign 0 ∷ Assign 1 ∷ Assign 2 ∷ Exec 1 ∷ Exec 0 ∷ []) ≡ Some (HasToPass 8 (record { unit = 0; task = 0; is_sent = true }))
unfolding address index_of region effective least
on_its_way = refl

-- Task B does not produce register 8 now. As the head it has the register, which is on its way to task C
abbrev handed_on : Listing
handed_on = record passed_on { tasks = task 0 0x100 (2 ∷ []) ∷ task 2 0 (3 ∷ []) ∷ task 3 0 [] ∷ [] }

pub from_the_head : reason_after handed_on 3 1 (Assign 0 ∷ Assign 1 ∷ Assign 2 ∷ Exec 0 ∷ Exec 0 ∷ Retire ∷ []) ≡ Some (NeedsRegister 8 (record { unit = 1; task = 1; is_sent = true }))
unfolding address index_of region effective least
from_the_head = refl
