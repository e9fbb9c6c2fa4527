-- Helper vocabulary of the search. No contract of a public function cites a word of this file.
use Rattle.std.specs.Prelude.{◌≡◌, ℕ, ◌<◌, ◌↔◌, true, false, Bool, List, [], ◌++◌, map, length, slice_get, slice_index_or, Option, Some, None, Contains}
use Rattle.std.specs.declared.alloc.Global.{Global}
use Rattle.std.specs.declared.vec.Vec.{Vec}
use Rattle.mips_instructions.specs.Words.{has}
use Rattle.mips_instructions.specs.Instruction.{released}
use Rattle.task_descriptor.specs.Listing.{Listing}
use Rattle.task_descriptor.specs.declared.descriptor.Descriptor.{Descriptor}
use Rattle.task_descriptor.specs.declared.descriptor.Marked.{Marked}
use Rattle.task_graph.specs.Edges.{sends}
use Rattle.task_graph.specs.Neighbours.{Follows}
use Rattle.task_graph.specs.Members.{Reaches}
use Rattle.task_graph.specs.SearchSteps.{is_marked, Search}
use Rattle.finding_paths.specs.declared.mark.CostlyMark.{CostlyMark}
use Rattle.finding_paths.specs.Costly.{IsCostly, ComesUnsent, has_target}
use Rattle.finding_paths.specs.Candidates.{Picked}

-- the task reaches the instruction
pub record TaskReaches (p : Listing) (task index : ℕ) : Type 0 where
  pub descriptor : Descriptor
  pub is_there : slice_get p.tasks task ≡ Some descriptor
  pub reached : Reaches p descriptor.entry index

-- the task that stands at an index
abbrev pub task_at : List (Option ℕ) → ℕ → Option ℕ
task_at table i = slice_index_or table i None

-- at each instruction stands one of the first n tasks that reaches it, or none where none of them does
pub record AreReaching (p : Listing) (n : ℕ) (table : List (Option ℕ)) : Type 0 where
  pub sized : length table ≡ length p.code
  pub reaches : (i t : ℕ) → task_at table i ≡ Some t → TaskReaches p t i
  pub none : (i t : ℕ) → i < length p.code → task_at table i ≡ None → t < n → TaskReaches p t i → ⊥

-- the table with a task at some indices
pub record AreNoted (indices : List ℕ) (task : ℕ) (old new : List (Option ℕ)) : Type 0 where
  pub sized : length new ≡ length old
  pub noted : (i : ℕ) → Contains indices i → task_at new i ≡ Some task
  pub kept : (i : ℕ) → (Contains indices i → ⊥) → task_at new i ≡ task_at old i

-- the task reaches the instruction and does not have all the registers of a set in its create mask
pub record TaskLacks (p : Listing) (task index set : ℕ) : Type 0 where
  pub descriptor : Descriptor
  pub is_there : slice_get p.tasks task ≡ Some descriptor
  pub reached : Reaches p descriptor.entry index
  pub lacks : ((r : ℕ) → has set r ≡ true → has descriptor.create r ≡ true) → ⊥

-- each of the first n tasks has the registers of a set in its create mask
abbrev pub AllHave : List Descriptor → (n set : ℕ) → Type 0
AllHave tasks n set = (t r : ℕ) (d : Descriptor) → t < n → slice_get tasks t ≡ Some d → has set r ≡ true → has d.create r ≡ true

-- some task does
pub record SomeTaskLacks (p : Listing) (index set : ℕ) : Type 0 where
  pub task : ℕ
  pub lacking : TaskLacks p task index set

-- the task reaches the instruction and may be followed
pub record TaskIsAwaited (p : Listing) (task index : ℕ) : Type 0 where
  pub descriptor : Descriptor
  pub is_there : slice_get p.tasks task ≡ Some descriptor
  pub reached : Reaches p descriptor.entry index
  pub followed : has_target descriptor.targets ≡ true

-- an inner successor of an instruction that does not send the register
pub record FollowsUnsent (p : Listing) (register i j : ℕ) : Type 0 where
  pub follows : Follows p i j
  pub unsent : sends follows.edge.at register ≡ false

-- The entries of the first n tasks are marked, and the search for where a register may be unsent has begun with
-- them alone.
pub record IsBegun (p : Listing) (n : ℕ) (marks : List Bool) (work : List ℕ) : Type 0 where
  pub sized : length marks ≡ length p.code
  pub entries : (t : ℕ) (d : Descriptor) → t < n → slice_get p.tasks t ≡ Some d → is_marked marks d.entry ≡ true
  pub search : (register : ℕ) → Search (length p.code) (ComesUnsent p register) (FollowsUnsent p register) marks work None

-- the marks, without where they lie in memory
abbrev pub marks_of : List (Vec Bool Global) → List (List Bool)
marks_of table = map (λ marks. marks.items) table

-- some instruction releases the register
pub record IsReleased (p : Listing) (register : ℕ) : Type 0 where
  pub index : ℕ
  pub at : Marked
  pub is_there : slice_get p.code index ≡ Some at
  pub releases : released at.op register ≡ true

-- the set has each register that one of the first n instructions releases
abbrev pub HasReleased : List Marked → (n set : ℕ) → Type 0
HasReleased code n set = (i r : ℕ) (at : Marked) → i < n → slice_get code i ≡ Some at → released at.op r ≡ true → has set r ≡ true

-- for each of the first n registers that is released, the instructions to which some task may come without having sent it
pub record AreUnsent (p : Listing) (n : ℕ) (table : List (List Bool)) : Type 0 where
  pub sized : length table ≡ n
  pub widths : (r : ℕ) → r < n → IsReleased p r → length (slice_index_or table r []) ≡ length p.code
  pub exact : (r i : ℕ) → r < n → IsReleased p r → (is_marked (slice_index_or table r []) i ≡ true) ↔ ComesUnsent p r i

-- after the list `old`, the list `new` has those of more marks that cost speed
abbrev pub Adds : Listing → (more old new : List CostlyMark) → Type 0
Adds p more old new = (from : List CostlyMark) → Picked (IsCostly p) from old → Picked (IsCostly p) (from ++ more) new
