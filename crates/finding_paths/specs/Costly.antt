-- Which marks cost speed though they may be right, in terms of paths.
--
-- Later tasks wait for each register of a create mask until it is sent: forwarded with its last update,
-- released, or sent when the task ends (Sohi, Breach, Vijaykumar, "Multiscalar Processors", ISCA 1995, section
-- 2.2). Which marks are reported is this project's own.
use Rattle.std.specs.Prelude.{◌≡◌, ℕ, ◌+◌, ◌<◌, Bool, true, false, List, [], ◌∷◌, length, slice_get, Some}
use Rattle.mips_instructions.specs.Words.{has}
use Rattle.mips_instructions.specs.Instruction.{dests, released}
use Rattle.task_descriptor.specs.Listing.{Listing}
use Rattle.task_descriptor.specs.declared.descriptor.Marked.{Marked}
use Rattle.task_descriptor.specs.declared.descriptor.Descriptor.{Descriptor}
use Rattle.task_graph.specs.Edges.{Edge, sends}
use Rattle.task_graph.specs.Members.{Reaches}
use Rattle.annotator.specs.Proposed.{Produces, IsMember, WritesLast}
use Rattle.finding_paths.specs.declared.mark.CostlyMark.{CostlyMark}
use Rattle.finding_paths.specs.declared.mark.CostlyMark.TheVariants.{NeverProduced, NotForwarded, SentBefore, Unreached}

-- A task with a target may be followed by another task, which may wait for it.
abbrev pub has_target : List ℕ → Bool
has_target [] = false
has_target (target ∷ targets) = true

-- The create mask of the task, which may be followed, has the register, and no instruction that the task
-- reaches writes or releases it.
pub record IsNeverProduced (p : Listing) (task register : ℕ) : Type 0 where
  pub descriptor : Descriptor
  pub is_there : slice_get p.tasks task ≡ Some descriptor
  pub followed : has_target descriptor.targets ≡ true
  pub created : has descriptor.create register ≡ true
  pub never : Produces p descriptor register → ⊥

-- Some task reaches the instruction, and may be followed.
pub record IsAwaited (p : Listing) (index : ℕ) : Type 0 where
  pub task : ℕ
  pub descriptor : Descriptor
  pub is_there : slice_get p.tasks task ≡ Some descriptor
  pub reached : Reaches p descriptor.entry index
  pub followed : has_target descriptor.targets ≡ true

-- The instruction, a member of some task that may be followed, has no forward bit and could have it: no path
-- onward inside the task writes a destination again, and each task that reaches it has all its destinations in
-- its create mask.
pub record IsNotForwarded (p : Listing) (index : ℕ) : Type 0 where
  pub at : Marked
  pub is_there : slice_get p.code index ≡ Some at
  pub unmarked : at.forward ≡ false
  pub awaited : IsAwaited p index
  pub last : WritesLast p index at.op
  pub created : (t : ℕ) (d : Descriptor) (r : ℕ) → slice_get p.tasks t ≡ Some d → Reaches p d.entry index → dests at.op r ≡ true → has d.create r ≡ true

-- A path from `i` along inner edges on which no instruction before its end sends the register.
pub data UnsentPath (p : Listing) (register i : ℕ) : ℕ → Type 0 where
  stay : UnsentPath p register i i
  onward : {j k : ℕ} → UnsentPath p register i j → (e : Edge p false j k) → sends e.at register ≡ false → UnsentPath p register i k

-- Some task reaches the instruction from its entry on such a path.
pub record ComesUnsent (p : Listing) (register index : ℕ) : Type 0 where
  pub task : ℕ
  pub descriptor : Descriptor
  pub is_there : slice_get p.tasks task ≡ Some descriptor
  pub path : UnsentPath p register descriptor.entry index
  pub within : index < length p.code

-- The instruction, a member of some task, releases the register, and on each path to it, of whatever task, an
-- instruction before it sends the register.
pub record IsSentBefore (p : Listing) (index register : ℕ) : Type 0 where
  pub at : Marked
  pub is_there : slice_get p.code index ≡ Some at
  pub releases : released at.op register ≡ true
  pub member : IsMember p index
  pub sent : ComesUnsent p register index → ⊥

-- A run of instructions that no task reaches begins there.
pub record BeginsUnreached (p : Listing) (index : ℕ) : Type 0 where
  pub within : index < length p.code
  pub unreached : IsMember p index → ⊥
  pub first : (before : ℕ) → before + 1 ≡ index → IsMember p before

-- the mark costs speed
abbrev pub IsCostly : Listing → CostlyMark → Type 0
IsCostly p (NeverProduced task register) = IsNeverProduced p task register
IsCostly p (NotForwarded index) = IsNotForwarded p index
IsCostly p (SentBefore index register) = IsSentBefore p index register
IsCostly p (Unreached index) = BeginsUnreached p index
