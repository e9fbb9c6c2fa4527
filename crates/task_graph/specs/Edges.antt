-- The edges of an annotated program and the paths along them.
--
-- Sources: where an instruction goes is the MIPS manual's (without delay slots); the stop marks are
-- those of Sohi, Breach, Vijaykumar, "Multiscalar Processors", ISCA 1995, section 2.2: "always", "if
-- taken", "if not taken" say on which edge a task ends.
use Rattle.std.specs.Prelude.{◌≡◌, ℕ, ◌+◌, ◌<◌, Bool, true, false, not, ◌||◌, ◌&&◌, if◌then◌else◌, nat_eq, List, ◌++◌, length, slice_get, Option, Some, None}
use Rattle.std.specs.Bool.{beq}
use Rattle.std.specs.Option.{option_to_list}
use Rattle.mips_instructions.specs.InstructionTable.{Next, Following, Branch, ToPlace, ToAddress, Stay, row}
use Rattle.mips_instructions.specs.Instruction.{dests, released}
use Rattle.mips_instructions.specs.declared.instruction.Op.{Op}
use Rattle.task_descriptor.specs.Listing.{Listing}
use Rattle.task_descriptor.specs.declared.descriptor.Marked.{Marked}
use Rattle.task_descriptor.specs.declared.descriptor.Stop.{Stop}
use Rattle.task_descriptor.specs.declared.descriptor.Stop.TheVariants as stop

-- The index that the instruction `op` at `i` leads to, for a conditional branch when it is `taken`, or
-- when it isn't. Only a conditional branch is ever taken. A jump to a register leads to no index that
-- is known beforehand, and `halt` leads nowhere.
abbrev pub edge_by : Next → ℕ → Bool → Option ℕ
edge_by Following i false = Some (i + 1)
edge_by (Branch _ place) i false = Some (i + 1)
edge_by (Branch _ place) i true = Some place
edge_by (ToPlace place) i false = Some place
edge_by _ i _ = None

abbrev pub edge : Op → ℕ → Bool → Option ℕ
edge op i taken = edge_by (row op).next i taken

-- Whether a task ends there: is the stop's condition met?
abbrev pub leaves : Stop → Bool → Bool
leaves stop.None taken = false
leaves stop.Always taken = true
leaves stop.Taken taken = taken
leaves stop.NotTaken taken = not taken

-- An edge from the instruction at `i` to the index `j`. It is an exit of the task where it is
-- `leaving`, else an inner edge. Where both edges of a branch lead to one index, each keeps its own kind.
pub record Edge (p : Listing) (leaving : Bool) (i j : ℕ) : Type 0 where
  pub at : Marked
  pub is_there : slice_get p.code i ≡ Some at
  pub taken : Bool
  pub leads : edge at.op i taken ≡ Some j
  pub kind : leaves at.stop taken ≡ leaving

-- The edge from the instruction `m` at `i` when its branch is `taken`, or when it isn't, where it is of
-- that kind.
abbrev pub end_of : (leaving : Bool) → Marked → ℕ → (taken : Bool) → Option ℕ
end_of leaving m i taken = if beq (leaves m.stop taken) leaving then edge m.op i taken else None

-- The indices that edges of one kind lead to, as a list that computes.
abbrev pub ends_of : (leaving : Bool) → Marked → ℕ → List ℕ
ends_of leaving m i = option_to_list (end_of leaving m i false) ++ option_to_list (end_of leaving m i true)

-- A path from `i` along inner edges. It continues only from instructions, so an index that is no
-- instruction can only be its last.
pub data Path (p : Listing) (i : ℕ) : ℕ → Type 0 where
  stay : Path p i i
  onward : {j k : ℕ} → Path p i j → Edge p false j k → Path p i k

-- A path from `i` may write the register `r`: it reaches an instruction of which r is a destination.
pub record MayWrite (p : Listing) (i r : ℕ) : Type 0 where
  pub place : ℕ
  pub comes : Path p i place
  pub at : Marked
  pub is_there : slice_get p.code place ≡ Some at
  pub writes : dests at.op r ≡ true

-- The instruction sends the register `r` to the later tasks: it forwards each of its destinations
-- where its forward bit is set, and a `release` sends what it names (section 2.2 of the paper).
abbrev pub sends : Marked → ℕ → Bool
sends m r = (m.forward && dests m.op r) || released m.op r

-- A jump to an address in a register.
abbrev pub to_address : Next → Bool
to_address ToAddress = true
to_address _ = false

abbrev pub is_indirect : Op → Bool
is_indirect op = to_address (row op).next
