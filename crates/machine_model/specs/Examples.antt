-- Worked examples, computed by the checker: scripts of events on small programs, their answers, and
-- the state that they leave.
use Rattle.std.specs.Prelude.{◌≡◌, ℕ, pos, negsuc, List, [], ◌∷◌, true, false, slice_get, Option, Some, None, Result, Ok, Err}
use Rattle.std.proofs.Common.{refl}
use Rattle.mips_instructions.specs.Words.{address, index_of}
use Rattle.mips_plain.specs.MemoryMap.{region, effective}
use Rattle.mips_instructions.specs.declared.instruction.ThreeKind.TheVariants.{Addu}
use Rattle.mips_instructions.specs.declared.instruction.ImmKind.TheVariants.{Addiu, Slti}
use Rattle.mips_instructions.specs.declared.instruction.LogicKind.TheVariants.{Ori}
use Rattle.mips_instructions.specs.declared.instruction.LoadKind.TheVariants.{Lw}
use Rattle.mips_instructions.specs.declared.instruction.MultKind.TheVariants.{Multu}
use Rattle.mips_instructions.specs.declared.instruction.MoveFromKind.TheVariants.{Mfhi, Mflo}
use Rattle.mips_instructions.specs.declared.instruction.BranchTwoKind.TheVariants.{Bne}
use Rattle.mips_instructions.specs.declared.instruction.Op.{Op}
use Rattle.mips_instructions.specs.declared.instruction.Op.TheVariants.{Three, Imm, Logic, Lui, Load, Mult, MoveFrom, BranchTwo, JumpReg, Out, Halt}
use Rattle.task_descriptor.specs.Listing.{Listing}
use Rattle.task_descriptor.specs.declared.descriptor.Descriptor.{Descriptor}
use Rattle.task_descriptor.specs.declared.descriptor.Marked.{Marked}
use Rattle.task_descriptor.specs.declared.descriptor.Stop.TheVariants as stop
use Rattle.machine_model.specs.Machine.{Active, opening, value}
use Rattle.machine_model.specs.Refusals.{least}
use Rattle.machine_model.specs.Answer.{Played, play}
use Rattle.machine_model.specs.Claims.{count_c, count_h}
use Rattle.machine_model.specs.HeadEvent.{head_event}
use Rattle.machine_model.specs.declared.event.Event.{Event}
use Rattle.machine_model.specs.declared.event.Event.TheVariants.{Assign, Exec, Transfer, Drain, Squash, Retire, Fault, Drop}
use Rattle.machine_model.specs.declared.event.Refused.{Refused}
use Rattle.machine_model.specs.declared.event.Refused.TheVariants as refused
use Rattle.machine_model.specs.declared.event.Standing.{Standing}
use Rattle.machine_model.specs.declared.event.Standing.TheVariants as standing

-- instructions with their marks: none, a forward bit, a stop always, both
abbrev pub bare : Op → Marked
bare op = record { op = op; forward = false; stop = stop.None }

abbrev pub forwards : Op → Marked
forwards op = record { op = op; forward = true; stop = stop.None }

abbrev pub stops : Op → Marked
stops op = record { op = op; forward = false; stop = stop.Always }

abbrev pub forwards_and_stops : Op → Marked
forwards_and_stops op = record { op = op; forward = true; stop = stop.Always }

-- a task without a name
abbrev pub task : (entry create : ℕ) → (targets : List ℕ) → Descriptor
task entry create targets = record { name = []; entry = entry; create = create; targets = targets }

-- what a script shows: its answers, the output, c and h, and how the run stands
pub record Shows (p : Listing) (units : ℕ) (events : List Event) (answers : List (Result (Unit {0}) Refused)) (output : List ℕ) (c h : ℕ) (outcome : Standing) : Type 0 where
  pub answers_are : (play p units events).answers ≡ answers
  pub output_is : (play p units events).state.output ≡ output
  pub c_is : count_c (play p units events).state ≡ c
  pub h_is : count_h (play p units events).state ≡ h
  pub outcome_is : (play p units events).state.outcome ≡ outcome

abbrev pub ok : Result (Unit {0}) Refused
ok = Ok tt

-- a unit's value of a register
abbrev pub value_of : Option Active → ℕ → Option ℕ
value_of None r = None
value_of (Some u) r = value u r

abbrev pub value_at : Played → (k r : ℕ) → Option ℕ
value_at played k r = value_of (slice_get played.state.queue k) r

-- Task A adds 1 to register 8 and register 8 to register 9 until register 8 is 4; task B outputs
-- register 9
abbrev pub count : Listing
count = record {
  code = forwards (Imm Addiu 8 8 (pos 1)) ∷ forwards (Three Addu 9 9 8) ∷ bare (Imm Slti 10 8 (pos 4)) ∷ stops (BranchTwo Bne 10 0 0) ∷ bare (Out 9) ∷ bare Halt ∷ [];
  bytes = [];
  fixed = [];
  tasks = task 0 0x700 (0 ∷ 4 ∷ []) ∷ task 4 0 [] ∷ [];
  start = 0;
}

-- the second unit waits for register 8 until it is sent and taken
abbrev pub count_waits : List Event
count_waits = Assign 0 ∷ Assign 0 ∷ Exec 1 ∷ Exec 0 ∷ Transfer 1 8 ∷ Exec 1 ∷ []

pub count_waits_shows : Shows count 2 count_waits (ok ∷ ok ∷ Err (refused.Waiting 8) ∷ ok ∷ ok ∷ ok ∷ []) [] 0 1 standing.Running
unfolding address index_of region effective least
count_waits_shows = record { answers_are = refl; output_is = refl; c_is = refl; h_is = refl; outcome_is = refl }

pub count_waits_value : value_at (play count 2 count_waits) 1 8 ≡ Some 2
unfolding address index_of region effective least
count_waits_value = refl

-- a unit that is assigned anew after a squash takes registers again; at the Retire it becomes the head
abbrev pub count_taken_again : List Event
count_taken_again = Assign 0 ∷ Assign 1 ∷ Exec 0 ∷ Exec 0 ∷ Transfer 1 8 ∷ Transfer 1 9 ∷ Exec 1 ∷ Exec 0 ∷ Exec 0 ∷ Retire ∷ Drain 0 10 ∷ Retire ∷ Squash 0 ∷ Assign 1 ∷ Assign 0 ∷ Transfer 1 8 ∷ Transfer 1 9 ∷ Transfer 1 8 ∷ Exec 1 ∷ Exec 1 ∷ Retire ∷ []

pub count_taken_again_shows : Shows count 2 count_taken_again (ok ∷ ok ∷ ok ∷ ok ∷ ok ∷ ok ∷ Err refused.NotHead ∷ ok ∷ ok ∷ Err (refused.Unfinished 10) ∷ ok ∷ Err refused.Mismatch ∷ ok ∷ Err refused.NotATarget ∷ ok ∷ ok ∷ ok ∷ Err refused.AlreadyThere ∷ ok ∷ ok ∷ ok ∷ []) [] 4 6 standing.Running
unfolding address index_of region effective least
count_taken_again_shows = record { answers_are = refl; output_is = refl; c_is = refl; h_is = refl; outcome_is = refl }

pub count_taken_again_value : value_at (play count 2 count_taken_again) 0 9 ≡ Some 3
unfolding address index_of region effective least
count_taken_again_value = refl

-- a Drop leaves the units before it
abbrev pub count_dropped : List Event
count_dropped = Assign 0 ∷ Assign 0 ∷ Assign 1 ∷ Drop 0 ∷ Drop 3 ∷ Drop 1 ∷ Assign 0 ∷ []

pub count_dropped_shows : Shows count 3 count_dropped (ok ∷ ok ∷ ok ∷ Err refused.NoSuch ∷ Err refused.NoSuch ∷ ok ∷ ok ∷ []) [] 0 0 standing.Running
unfolding address index_of region effective least
count_dropped_shows = record { answers_are = refl; output_is = refl; c_is = refl; h_is = refl; outcome_is = refl }

-- most of the refusals
abbrev pub count_refused : List Event
count_refused = Assign 1 ∷ Exec 0 ∷ Retire ∷ Assign 0 ∷ Retire ∷ Drain 0 7 ∷ Drain 0 8 ∷ Transfer 0 8 ∷ Assign 0 ∷ Assign 0 ∷ Transfer 1 9 ∷ Transfer 1 1 ∷ Squash 0 ∷ Squash 1 ∷ Fault ∷ Exec 0 ∷ Exec 0 ∷ Exec 0 ∷ Exec 0 ∷ Exec 0 ∷ Fault ∷ Squash 0 ∷ Drain 0 8 ∷ []

pub count_refused_shows : Shows count 2 count_refused (Err refused.NotATarget ∷ Err refused.NoSuch ∷ Err refused.NoSuch ∷ ok ∷ Err refused.NotStopped ∷ Err refused.NoSuch ∷ Err refused.NotStopped ∷ Err refused.NoSuch ∷ ok ∷ Err refused.NoUnit ∷ Err (refused.NotYet 9) ∷ Err refused.AlreadyThere ∷ Err refused.NotStopped ∷ Err refused.NoSuch ∷ Err refused.NotStopped ∷ ok ∷ ok ∷ ok ∷ ok ∷ Err refused.Stopped ∷ Err refused.IsListed ∷ Err refused.NoMismatch ∷ Err refused.AlreadyThere ∷ []) [] 0 4 standing.Running
unfolding address index_of region effective least
count_refused_shows = record { answers_are = refl; output_is = refl; c_is = refl; h_is = refl; outcome_is = refl }

-- Task B, predicted wrongly, would load from an address that is in no region
abbrev pub wrong_path_load : Listing
wrong_path_load = record {
  code = forwards (Imm Addiu 8 0 (pos 1)) ∷ stops (BranchTwo Bne 8 0 3) ∷ forwards_and_stops (Load Lw 11 0 (pos 1)) ∷ bare (Out 8) ∷ bare Halt ∷ [];
  bytes = [];
  fixed = [];
  tasks = task 0 0x100 (2 ∷ 3 ∷ []) ∷ task 2 0x800 (3 ∷ []) ∷ task 3 0 [] ∷ [];
  start = 0;
}

-- the load waits for the head and is squashed: no trap
abbrev pub wrong_path_squashed : List Event
wrong_path_squashed = Assign 0 ∷ Assign 1 ∷ Exec 1 ∷ Exec 0 ∷ Exec 0 ∷ Squash 0 ∷ Assign 2 ∷ Exec 1 ∷ Transfer 1 8 ∷ Retire ∷ Exec 0 ∷ Exec 0 ∷ []

pub wrong_path_squashed_shows : Shows wrong_path_load 2 wrong_path_squashed (ok ∷ ok ∷ Err refused.NotHead ∷ ok ∷ ok ∷ ok ∷ ok ∷ Err (refused.Waiting 8) ∷ ok ∷ ok ∷ ok ∷ ok ∷ []) (1 ∷ []) 2 4 standing.Halted
unfolding address index_of region effective least
wrong_path_squashed_shows = record { answers_are = refl; output_is = refl; c_is = refl; h_is = refl; outcome_is = refl }

-- The one task jumps through register 31 to an address that it does not list
abbrev pub unlisted_jump : Listing
unlisted_jump = record {
  code = bare (Lui 31 0x40) ∷ bare (Logic Ori 31 31 0x10) ∷ stops (JumpReg 31) ∷ bare Halt ∷ bare (Out 31) ∷ bare Halt ∷ [];
  bytes = [];
  fixed = [];
  tasks = task 0 0x80000000 [] ∷ [];
  start = 0;
}

-- it ends by a Fault, and nothing retires
abbrev pub jump_unlisted : List Event
jump_unlisted = Assign 0 ∷ Exec 0 ∷ Exec 0 ∷ Exec 0 ∷ Retire ∷ Drain 0 31 ∷ Retire ∷ Fault ∷ Fault ∷ []

pub jump_unlisted_shows : Shows unlisted_jump 1 jump_unlisted (ok ∷ ok ∷ ok ∷ ok ∷ Err (refused.Unfinished 31) ∷ ok ∷ Err refused.NotListed ∷ ok ∷ Err refused.Ended ∷ []) [] 0 3 (standing.Unlisted 0x400010)
unfolding address index_of region effective least
jump_unlisted_shows = record { answers_are = refl; output_is = refl; c_is = refl; h_is = refl; outcome_is = refl }

-- Task B, predicted wrongly, loads a word of read-only data, and then one at an address in no region
abbrev pub read_only : Listing
read_only = record {
  code = forwards (Imm Addiu 8 0 (pos 1)) ∷ stops (BranchTwo Bne 8 0 6) ∷ bare (Lui 9 0x1000) ∷ bare (Logic Ori 9 9 0) ∷ forwards (Load Lw 9 9 (pos 0)) ∷ forwards_and_stops (Load Lw 10 9 (pos 1)) ∷ bare (Out 8) ∷ bare Halt ∷ [];
  bytes = [];
  fixed = 7 ∷ 0 ∷ 0 ∷ 0 ∷ [];
  tasks = task 0 0x100 (2 ∷ 6 ∷ []) ∷ task 2 0x600 (6 ∷ []) ∷ task 6 0 [] ∷ [];
  start = 0;
}

-- a load of read-only data may run ahead of the head, any other waits for it
abbrev pub read_ahead : List Event
read_ahead = Assign 0 ∷ Assign 1 ∷ Exec 1 ∷ Exec 1 ∷ Exec 1 ∷ Exec 1 ∷ []

pub read_ahead_shows : Shows read_only 2 read_ahead (ok ∷ ok ∷ ok ∷ ok ∷ ok ∷ Err refused.NotHead ∷ []) [] 0 0 standing.Running
unfolding address index_of region effective least
read_ahead_shows = record { answers_are = refl; output_is = refl; c_is = refl; h_is = refl; outcome_is = refl }

pub read_ahead_value : value_at (play read_only 2 read_ahead) 1 9 ≡ Some 7
unfolding address index_of region effective least
read_ahead_value = refl

-- what was loaded on the wrong path is discarded
abbrev pub read_and_squashed : List Event
read_and_squashed = Assign 0 ∷ Assign 1 ∷ Exec 1 ∷ Exec 1 ∷ Exec 1 ∷ Exec 1 ∷ Exec 0 ∷ Exec 0 ∷ Squash 0 ∷ Assign 2 ∷ Transfer 1 8 ∷ Retire ∷ Exec 0 ∷ Exec 0 ∷ []

pub read_and_squashed_shows : Shows read_only 2 read_and_squashed (ok ∷ ok ∷ ok ∷ ok ∷ ok ∷ Err refused.NotHead ∷ ok ∷ ok ∷ ok ∷ ok ∷ ok ∷ ok ∷ ok ∷ ok ∷ []) (1 ∷ []) 2 4 standing.Halted
unfolding address index_of region effective least
read_and_squashed_shows = record { answers_are = refl; output_is = refl; c_is = refl; h_is = refl; outcome_is = refl }

-- Task A multiplies 2 ^ 32 - 2 by itself, task B outputs HI and LO
abbrev pub product : Listing
product = record {
  code = forwards (Imm Addiu 8 0 (negsuc 1)) ∷ forwards_and_stops (Mult Multu 8 8) ∷ bare (MoveFrom Mfhi 9) ∷ bare (Out 9) ∷ forwards (MoveFrom Mflo 9) ∷ bare (Out 9) ∷ bare Halt ∷ [];
  bytes = [];
  fixed = [];
  tasks = task 0 0x300000100 (2 ∷ []) ∷ task 2 0x200 [] ∷ [];
  start = 0;
}

-- HI and LO go from task to task like any register
abbrev pub product_run : List Event
product_run = Assign 0 ∷ Exec 0 ∷ Exec 0 ∷ Retire ∷ Assign 1 ∷ Exec 0 ∷ Exec 0 ∷ Exec 0 ∷ Exec 0 ∷ Exec 0 ∷ []

pub product_run_shows : Shows product 1 product_run (ok ∷ ok ∷ ok ∷ ok ∷ ok ∷ ok ∷ ok ∷ ok ∷ ok ∷ ok ∷ []) (4294967292 ∷ 4 ∷ []) 2 7 standing.Halted
unfolding address index_of region effective least
product_run_shows = record { answers_are = refl; output_is = refl; c_is = refl; h_is = refl; outcome_is = refl }

-- and the second unit may run ahead with HI alone
abbrev pub product_ahead : List Event
product_ahead = Assign 0 ∷ Assign 1 ∷ Exec 0 ∷ Exec 0 ∷ Transfer 1 32 ∷ Exec 1 ∷ Retire ∷ Exec 0 ∷ Exec 0 ∷ Exec 0 ∷ Exec 0 ∷ []

pub product_ahead_shows : Shows product 2 product_ahead (ok ∷ ok ∷ ok ∷ ok ∷ ok ∷ ok ∷ ok ∷ ok ∷ ok ∷ ok ∷ ok ∷ []) (4294967292 ∷ 4 ∷ []) 2 7 standing.Halted
unfolding address index_of region effective least
product_ahead_shows = record { answers_are = refl; output_is = refl; c_is = refl; h_is = refl; outcome_is = refl }

-- the event of the head: at first the task at the start, after four instructions the least register
-- that is not sent
pub count_begins : head_event count (opening count) ≡ Some (Assign 0)
unfolding address index_of region effective least
count_begins = refl

pub count_drains : head_event count (play count 1 (Assign 0 ∷ Exec 0 ∷ Exec 0 ∷ Exec 0 ∷ Exec 0 ∷ [])).state ≡ Some (Drain 0 10)
unfolding address index_of region effective least
count_drains = refl
