-- When the annotations of a program are right, whatever path a run takes.
--
-- Source: Sohi, Breach, Vijaykumar, "Multiscalar Processors", ISCA 1995, section 2.2: a create mask
-- holds each register that a task may produce, a forward bit marks the last update of a register, a
-- release sends a register that is not updated any more, and a descriptor lists the possible
-- successors. The exact form is this project's own.
use Rattle.std.specs.Prelude.{◌≡◌, ℕ, ◌<◌, Bool, true, false, Some, slice_get, nat_eq, length}
use Rattle.std.specs.List.{list_any}
use Rattle.mips_instructions.specs.Words.{has}
use Rattle.task_descriptor.specs.Listing.{Listing}
use Rattle.task_descriptor.specs.declared.descriptor.Marked.{Marked}
use Rattle.task_descriptor.specs.declared.descriptor.Descriptor.{Descriptor}
use Rattle.task_descriptor.specs.declared.descriptor.Stop.TheVariants as stop
use Rattle.task_graph.specs.Edges.{Edge, Path, MayWrite, sends, is_indirect}

-- The index is a listed target of the task.
abbrev pub is_target : Descriptor → ℕ → Bool
is_target d j = list_any (nat_eq j) d.targets

-- Some task begins at the index.
abbrev pub is_entry : Listing → ℕ → Bool
is_entry p j = list_any (λ (d : Descriptor). nat_eq j d.entry) p.tasks

-- The annotations of one task are right.
pub record SoundTask (p : Listing) (d : Descriptor) : Type 0 where
  -- (a) A path from the entry writes only registers of the create mask.
  pub writes_created : (r : ℕ) → MayWrite p d.entry r → has d.create r ≡ true
  -- (b) What a reached instruction forwards or releases is in the create mask, and no path from an
  -- inner successor writes it again.
  pub sends_created : (i : ℕ) (m : Marked) → Path p d.entry i → slice_get p.code i ≡ Some m →
      (r : ℕ) → sends m r ≡ true → has d.create r ≡ true
  pub sends_last : (i : ℕ) (m : Marked) → Path p d.entry i → slice_get p.code i ≡ Some m →
      (r : ℕ) → sends m r ≡ true → (j : ℕ) → Edge p false i j → MayWrite p j r → ⊥
  -- (c) Each direct exit of a reached instruction is a listed target, and each listed target is the
  -- entry of a task.
  pub exits_listed : (i j : ℕ) → Path p d.entry i → Edge p true i j → is_target d j ≡ true
  pub targets_begin : (j : ℕ) → is_target d j ≡ true → is_entry p j ≡ true
  -- (d) Each inner edge of a reached instruction leads to an instruction.
  pub stays_inside : (i j : ℕ) → Path p d.entry i → Edge p false i j → j < length p.code
  -- (e) A reached jump to an address in a register stops always.
  pub indirect_stops : (i : ℕ) (m : Marked) → Path p d.entry i → slice_get p.code i ≡ Some m →
      is_indirect m.op ≡ true → m.stop ≡ stop.Always

-- The annotations of each task are right.
abbrev pub Sound : Listing → Type 0
Sound p = (t : ℕ) (d : Descriptor) → slice_get p.tasks t ≡ Some d → SoundTask p d
