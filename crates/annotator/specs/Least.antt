-- What the least certificate of a program is, in terms of paths; how it is found plays no part.
--
-- A mask is to hold each register that a task may still write. Masks as a certificate are this project's
-- own; they refine the create mask of Sohi, Breach, Vijaykumar, "Multiscalar Processors", ISCA 1995,
-- section 2.2.
use Rattle.std.specs.Prelude.{◌≡◌, ℕ, ◌↔◌, true, List, length, slice_get, Option, Some, IsSome}
use Rattle.mips_instructions.specs.Words.{has}
use Rattle.task_descriptor.specs.Listing.{Listing}
use Rattle.task_descriptor.specs.declared.descriptor.Descriptor.{Descriptor}
use Rattle.task_graph.specs.Edges.{MayWrite}
use Rattle.task_graph.specs.Members.{Reaches}
use Rattle.mask_certificate.specs.Lists.{list_of, mask_at, Rises}

-- The list has the least masks of the task d.
pub record LeastList (p : Listing) (d : Descriptor) (list : List (ℕ × ℕ)) : Type 0 where
  -- an index occurs at most once
  pub rises : Rises list
  -- an index has a mask exactly where a path from the task's entry reaches an instruction there
  pub reached : (i : ℕ) → IsSome (mask_at list i) ↔ Reaches p d.entry i
  -- the mask is exactly the set of the registers that some path from there writes
  pub exact : (i mask r : ℕ) → mask_at list i ≡ Some mask → (has mask r ≡ true) ↔ MayWrite p i r

-- The certificate has one list for each task, each with the least masks.
pub record IsLeast (p : Listing) (cert : List (List (ℕ × ℕ))) : Type 0 where
  pub sized : length cert ≡ length p.tasks
  pub least : (t : ℕ) (d : Descriptor) → slice_get p.tasks t ≡ Some d → LeastList p d (list_of cert t)

-- Each index that has a mask in one list has one in the other, with at least its registers.
abbrev pub IsWithin : (list other : List (ℕ × ℕ)) → Type 0
IsWithin list other =
    (i mask : ℕ) → mask_at list i ≡ Some mask → (wider : ℕ) × (mask_at other i ≡ Some wider) × ((r : ℕ) → has mask r ≡ true → has wider r ≡ true)
