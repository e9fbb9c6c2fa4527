-- What a well-formed annotated program is (Sohi, Breach, Vijaykumar, ISCA 1995, section 2.2; the
-- limits and the marks that fit an instruction are this project's choices).
use Rattle.std.specs.Prelude.{◌≡◌, ◌<◌, ℕ, zero, suc, ◌++◌, Bool, true, false, not, ◌&&◌, ◌||◌, ◌==◌, nat_lt, nat_le, if◌then◌else◌, Option, Some, None, List, [], ◌∷◌, map, length, position}
use Rattle.std.specs.List.{list_any, All}
use Rattle.std.specs.Str.{bytes_eq}
use Rattle.mips_instructions.specs.Words.{has, index_of}
use Rattle.mips_instructions.specs.Instruction.{dests, waits}
use Rattle.mips_plain.specs.PlainMachine.{Input}
use Rattle.mips_instructions.specs.declared.instruction.Op.{Op}
use Rattle.mips_instructions.specs.declared.instruction.Op.TheVariants.{BranchTwo, BranchOne, Release, Halt}
use Rattle.task_descriptor.specs.Names.{is_name}
use Rattle.task_descriptor.specs.declared.descriptor.Stop.{Stop}
use Rattle.task_descriptor.specs.declared.descriptor.Stop.TheVariants.{None as Never, Always, Taken, NotTaken}
use Rattle.task_descriptor.specs.declared.descriptor.Marked.{Marked}
use Rattle.task_descriptor.specs.declared.descriptor.Descriptor.{Descriptor}
use Rattle.task_descriptor.specs.declared.program.Parts.{Parts}
use Rattle.task_descriptor.specs.declared.program.BuildFault.{BuildFault}
use Rattle.task_descriptor.specs.declared.program.BuildFault.TheVariants.{TooMany, NoTask, BadEntry, DuplicateEntry, BadMask, BadMark, BadStart}

-- a program as lists: the instructions with their marks, the bytes that data memory and read-only
-- data begin with, the tasks, and the index of the first instruction
pub record Listing : Type 0 where
  pub code : List Marked
  pub bytes : List ℕ
  pub fixed : List ℕ
  pub tasks : List Descriptor
  pub start : ℕ

-- what parts are, as lists
abbrev pub listing_of : Parts → Listing
listing_of parts = record {
  code = parts.code.items;
  bytes = parts.bytes.items;
  fixed = parts.fixed.items;
  tasks = parts.tasks.items;
  start = parts.start;
}

-- what the plain machine takes from it: no mark, and no task
abbrev pub input : Listing → Input
input p = record { code = map (λ m. m.op) p.code; bytes = p.bytes; fixed = p.fixed; start = p.start }

-- an index at which there is an instruction
abbrev pub if_instruction : List Marked → Option ℕ → Option ℕ
if_instruction code None = None
if_instruction code (Some index) = if nat_lt index (length code) then Some index else None

-- the index of the instruction at an address, if one is there
abbrev pub instruction_at : Listing → ℕ → Option ℕ
instruction_at p at = if_instruction p.code (index_of at)

-- the numbers below n, in ascending order
abbrev pub numbers_below : ℕ → List ℕ
numbers_below zero = []
numbers_below (suc n) = numbers_below n ++ n ∷ []

-- the registers, 0 to 33
abbrev pub registers : List ℕ
registers = numbers_below 34

-- one of the limits is passed: 4,096 instructions, 1,024 tasks, 16 targets of a task, 65,536 bytes
abbrev pub is_too_many : Listing → Bool
is_too_many p =
    nat_lt 4096 (length p.code) || nat_lt 65536 (length p.bytes) || nat_lt 65536 (length p.fixed)
    || nat_lt 1024 (length p.tasks) || list_any (λ t. nat_lt 16 (length t.targets)) p.tasks

abbrev pub has_no_task : List Descriptor → Bool
has_no_task [] = true
has_no_task (t ∷ ts) = false

abbrev pub has_bad_entry : Listing → Bool
has_bad_entry p = list_any (λ t. nat_le (length p.code) t.entry) p.tasks

-- two tasks have one entry or one name
abbrev pub collide : (t u : Descriptor) → Bool
collide t u = t.entry == u.entry || bytes_eq t.name u.name

abbrev pub has_duplicate : List Descriptor → Bool
has_duplicate [] = false
has_duplicate (t ∷ ts) = list_any (collide t) ts || has_duplicate ts

abbrev pub has_bad_mask : List Descriptor → Bool
has_bad_mask tasks = list_any (λ t. has t.create 0) tasks

-- the instruction writes a register
abbrev pub has_destination : Op → Bool
has_destination op = list_any (dests op) registers

abbrev pub is_conditional : Op → Bool
is_conditional (BranchTwo kind rs rt place) = true
is_conditional (BranchOne kind rs place) = true
is_conditional _ = false

-- a stop if taken or if not taken stands only on a conditional branch, and a `halt` has no stop
abbrev pub stop_fits : Stop → Op → Bool
stop_fits Never op = true
stop_fits Always Halt = false
stop_fits Always op = true
stop_fits Taken op = is_conditional op
stop_fits NotTaken op = is_conditional op

-- a `release` names a register, and not register 0
abbrev pub release_fits : Op → Bool
release_fits (Release set) = list_any (has set) registers && not (has set 0)
release_fits op = true

abbrev pub is_bad_mark : Marked → Bool
is_bad_mark m =
    m.forward && not (has_destination m.op) || not (stop_fits m.stop m.op) || not (release_fits m.op)

abbrev pub starts_at_no_entry : Listing → Bool
starts_at_no_entry p = not (list_any (λ t. t.entry == p.start) p.tasks)

-- the least index with a bad mark comes before a bad start
abbrev pub mark_fault : Option ℕ → Bool → Option BuildFault
mark_fault (Some index) bad_start = Some (BadMark index)
mark_fault None bad_start = if bad_start then Some BadStart else None

-- the first of the seven refusals whose condition holds
abbrev pub build_fault : Listing → Option BuildFault
build_fault p =
    if is_too_many p then Some TooMany
    else if has_no_task p.tasks then Some NoTask
    else if has_bad_entry p then Some BadEntry
    else if has_duplicate p.tasks then Some DuplicateEntry
    else if has_bad_mask p.tasks then Some BadMask
    else mark_fault (position is_bad_mark p.code) (starts_at_no_entry p)

-- a set of only registers, 0 to 33
abbrev pub OfRegisters : (ℕ → Bool) → Type 0
OfRegisters set = (r : ℕ) → set r ≡ true → r < 34

-- an instruction names only registers: those that it waits for, and those that it writes
pub record NamesRegisters (m : Marked) : Type 0 where
  pub waits : OfRegisters (waits m.op)
  pub dests : OfRegisters (dests m.op)

-- so do all instructions and create masks, and the name of each task is a name; the types of the parts
-- ensure this, so no refusal tests it
pub record IsInRange (p : Listing) : Type 0 where
  pub code : All NamesRegisters p.code
  pub tasks : All (λ t. OfRegisters (has t.create)) p.tasks
  pub names : All (λ t. is_name t.name ≡ true) p.tasks

-- none of the seven refusals holds, and each register and each name is one
pub record IsWellFormed (p : Listing) : Type 0 where
  pub passes : build_fault p ≡ None
  pub in_range : IsInRange p
