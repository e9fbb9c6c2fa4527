-- What is claimed of the machine after any list of events: the counts c and h, and that what retired
-- is the plain machine's run ("the appearance of sequential execution", ISCA 1995, section 2).
use Rattle.std.specs.Prelude.{◌≡◌, ℕ, ◌+◌, List, [], ◌∷◌, false, true, length, slice_get, Some}
use Rattle.std.specs.List.{sum_by, AllByRecursion}
use Rattle.mips_plain.specs.PlainMachine.{State as PlainState, plain, reads}
use Rattle.mips_plain.specs.declared.outcome.Outcome.TheVariants as outcome
use Rattle.mips_plain.specs.declared.outcome.Read.{Read}
use Rattle.task_descriptor.specs.Listing.{Listing, input}
use Rattle.machine_model.specs.Machine.{Active, State, value}
use Rattle.machine_model.specs.Step.{is_listed}
use Rattle.machine_model.specs.declared.event.Commit.{Commit}
use Rattle.machine_model.specs.declared.event.Standing.{Standing}
use Rattle.machine_model.specs.declared.event.Standing.TheVariants.{Running, Halted, Trapped, Unlisted}

-- the plain machine after n instructions of the program, and what they read
abbrev pub plain_of : Listing → ℕ → PlainState
plain_of p n = plain (input p) n

abbrev pub reads_of : Listing → ℕ → List Read
reads_of p n = reads (input p) n

-- how many instructions the retired tasks executed
abbrev pub committed : List Commit → ℕ
committed commits = sum_by (λ commit. commit.count) commits

-- how many the head executed so far: none where there is no head
abbrev pub by_head : List Active → ℕ
by_head [] = 0
by_head (u ∷ us) = length u.log

-- the counts c and h
abbrev pub count_c : State → ℕ
count_c s = committed s.commits

abbrev pub count_h : State → ℕ
count_h s = count_c s + by_head s.queue

-- how the plain machine stands after h instructions, by how the run stands; where that is Unlisted the
-- head, which stopped there, does not list the address
abbrev pub EndsLike : Listing → State → Standing → Type 0
EndsLike p s Running = (plain_of p (count_h s)).outcome ≡ outcome.Running
EndsLike p s Halted = (plain_of p (count_h s)).outcome ≡ outcome.Halted
EndsLike p s (Trapped trap) = (plain_of p (count_h s)).outcome ≡ outcome.Trapped trap
EndsLike p s (Unlisted at) =
    ((plain_of p (count_h s)).outcome ≡ outcome.Running)
    × ((plain_of p (count_h s)).pc ≡ at)
    × ((head : Active) × (slice_get s.queue 0 ≡ Some head) × (is_listed p head.task at ≡ false))

pub record Claims (p : Listing) (s : State) : Type 0 where
  -- what the retired tasks read is what the plain machine's first c instructions read
  pub reads : s.reads ≡ reads_of p (count_c s)
  -- and they are c
  pub number : length s.reads ≡ count_c s
  -- each retired exit is an address that the task lists
  pub exits : AllByRecursion (λ commit. is_listed p commit.task commit.exit ≡ true) s.commits
  -- output and memory are the plain machine's after h instructions
  pub output : s.output ≡ (plain_of p (count_h s)).output
  pub memory : s.memory ≡ (plain_of p (count_h s)).memory
  -- so are the head's registers; those kept at the last Retire are its after c instructions
  pub head : (u : Active) → slice_get s.queue 0 ≡ Some u → (r : ℕ) → value u r ≡ Some ((plain_of p (count_h s)).regs r)
  pub regs : (r : ℕ) → s.regs r ≡ (plain_of p (count_c s)).regs r
  -- how the run stands
  pub ends : EndsLike p s s.outcome
