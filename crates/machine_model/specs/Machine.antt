-- The machine between two events (Sohi, Breach, Vijaykumar, "Multiscalar Processors", ISCA 1995,
-- sections 2 and 3): a queue of units from head to tail, and beside it what has retired.
use Rattle.std.specs.Prelude.{ℕ, List, [], Bool, nat_eq, if◌then◌else◌, slice_index_or, Option, Some}
use Rattle.std.specs.Option.{option_or}
use Rattle.mips_instructions.specs.Words.{has, address}
use Rattle.mips_plain.specs.MemoryMap.{byte_of}
use Rattle.mips_plain.specs.declared.outcome.Read.{Read}
use Rattle.task_descriptor.specs.Listing.{Listing}
use Rattle.task_descriptor.specs.declared.descriptor.Descriptor.{Descriptor}
use Rattle.machine_model.specs.declared.event.Commit.{Commit}
use Rattle.machine_model.specs.declared.event.Spot.{Spot}
use Rattle.machine_model.specs.declared.event.Standing.{Standing}
use Rattle.machine_model.specs.declared.event.Standing.TheVariants as standing

-- pairs of a register and a word, at most one for each register
abbrev pub Words : Type 0
Words = ℕ → Option ℕ

-- a unit at work: its task; its serial number, which tells it from earlier units of the same task;
-- the registers that arrived, that it wrote itself and that it sent; where it stands; and what its
-- instructions read so far
pub record Active : Type 0 where
  pub task : ℕ
  pub serial : ℕ
  pub arrived : Words
  pub local : Words
  pub sent : Words
  pub place : Spot
  pub log : List Read

-- the queue from the head, the registers that the head's task began with, data memory, the output,
-- how the run stands, the address at which the next task after the retired ones begins, what the
-- retired tasks read, their commits, and how many Assigns there were
pub record State : Type 0 where
  pub queue : List Active
  pub regs : ℕ → ℕ
  pub memory : ℕ → ℕ
  pub output : List ℕ
  pub outcome : Standing
  pub next : ℕ
  pub reads : List Read
  pub commits : List Commit
  pub assigns : ℕ

abbrev pub opening : Listing → State
opening p = record {
  queue = [];
  regs = λ r. 0;
  memory = byte_of p.bytes;
  output = [];
  outcome = standing.Running;
  next = address p.start;
  reads = [];
  commits = [];
  assigns = 0;
}

-- the task of a number; a number beyond the tasks stands for one that has no target and produces nothing
abbrev pub no_task : Descriptor
no_task = record { name = []; entry = 0; create = 0; targets = [] }

abbrev pub task_at : Listing → ℕ → Descriptor
task_at p t = slice_index_or p.tasks t no_task

-- the registers for which a task may produce values
abbrev pub creates : Listing → ℕ → ℕ → Bool
creates p t r = has (task_at p t).create r

-- the address at which a task begins
abbrev pub begins : Listing → ℕ → ℕ
begins p t = address (task_at p t).entry

-- the value of a register: register 0 has 0, any other the last own write, or else what arrived
abbrev pub value_in : (own arrived : Words) → Words
value_in own arrived r = if nat_eq 0 r then Some 0 else option_or (own r) (arrived r)

-- a unit's value of a register
abbrev pub value : Active → ℕ → Option ℕ
value u r = value_in u.local u.arrived r

-- what a unit passes on: what it sent of the registers that its task may produce, and what arrived
-- of the others
abbrev pub pass : Listing → Active → ℕ → Option ℕ
pass p u r = if creates p u.task r then u.sent r else u.arrived r
