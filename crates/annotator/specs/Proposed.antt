-- What marks are proposed for a program.
--
-- Create masks and forward bits are those of Sohi, Breach, Vijaykumar, "Multiscalar Processors", ISCA
-- 1995, section 2.2: the registers that a task may produce, and the last update of a register. What is
-- proposed from the code and the other marks is this project's own.
use Rattle.std.specs.Prelude.{◌≡◌, ℕ, ◌↔◌, Bool, true, false, ◌||◌, List, length, slice_get, Some}
use Rattle.mips_instructions.specs.Words.{has}
use Rattle.mips_instructions.specs.Instruction.{dests, released}
use Rattle.mips_instructions.specs.declared.instruction.Op.{Op}
use Rattle.task_descriptor.specs.Listing.{Listing, has_destination}
use Rattle.task_descriptor.specs.declared.descriptor.Marked.{Marked}
use Rattle.task_descriptor.specs.declared.descriptor.Descriptor.{Descriptor}
use Rattle.task_graph.specs.Edges.{Edge, MayWrite}
use Rattle.task_graph.specs.Members.{Reaches}

-- the instruction writes or releases the register
abbrev pub produces : Op → ℕ → Bool
produces op r = dests op r || released op r

-- an instruction that the task reaches writes or releases the register
pub record Produces (p : Listing) (d : Descriptor) (r : ℕ) : Type 0 where
  pub place : ℕ
  pub reached : Reaches p d.entry place
  pub at : Marked
  pub is_there : slice_get p.code place ≡ Some at
  pub produced : produces at.op r ≡ true

-- the instruction at i is a member of some task: the task reaches it
pub record IsMember (p : Listing) (i : ℕ) : Type 0 where
  pub task : ℕ
  pub descriptor : Descriptor
  pub is_there : slice_get p.tasks task ≡ Some descriptor
  pub reached : Reaches p descriptor.entry i

-- The instruction at i has a destination, and no path from an inner successor writes any of its
-- destinations again. In each task that it belongs to these paths are the same, since where tasks end is
-- marked at the instructions.
pub record WritesLast (p : Listing) (i : ℕ) (op : Op) : Type 0 where
  pub writes : has_destination op ≡ true
  pub last : (j r : ℕ) → Edge p false i j → dests op r ≡ true → MayWrite p j r → ⊥

-- The marks `new` are those proposed for the instruction `old` at i: the stop stays; a member of a task
-- carries a forward bit exactly where it writes last, and what is not a member keeps its forward bit.
pub record IsRemarked (p : Listing) (i : ℕ) (old new : Marked) : Type 0 where
  pub op : new.op ≡ old.op
  pub stop : new.stop ≡ old.stop
  pub forward : IsMember p i → (new.forward ≡ true) ↔ WritesLast p i old.op
  pub beside : (IsMember p i → ⊥) → new.forward ≡ old.forward

-- The descriptor `new` is the one proposed for the task `old`: its create mask is exactly what members
-- of the task write or release, and everything else stays.
pub record IsRedescribed (p : Listing) (old new : Descriptor) : Type 0 where
  pub name : new.name ≡ old.name
  pub entry : new.entry ≡ old.entry
  pub targets : new.targets ≡ old.targets
  pub create : (r : ℕ) → (has new.create r ≡ true) ↔ Produces p old r

-- q is the program p with the marks that are proposed for it.
pub record IsProposed (p q : Listing) : Type 0 where
  pub code_sized : length q.code ≡ length p.code
  pub code : (i : ℕ) (old new : Marked) → slice_get p.code i ≡ Some old → slice_get q.code i ≡ Some new → IsRemarked p i old new
  pub tasks_sized : length q.tasks ≡ length p.tasks
  pub tasks : (t : ℕ) (old new : Descriptor) → slice_get p.tasks t ≡ Some old → slice_get q.tasks t ≡ Some new → IsRedescribed p old new
  pub bytes : q.bytes ≡ p.bytes
  pub fixed : q.fixed ≡ p.fixed
  pub start : q.start ≡ p.start
