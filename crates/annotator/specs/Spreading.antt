-- What the search for the masks keeps: registers spread backward along inner edges.
use Rattle.std.specs.Prelude.{◌≡◌, ℕ, ◌↔◌, ◌<◌, ◌≤◌, ◌+◌, ◌*◌, ◌-◌, ◌^◌, ◌⊎◌, true, List, [], ◌∷◌, ◌++◌, map, sum_by, length, slice_get, slice_index, slice_index_or, slice_set, Option, Some, None, Contains}
use Rattle.std.specs.declared.alloc.Global.{Global}
use Rattle.std.specs.declared.vec.Vec.{Vec}
use Rattle.mips_instructions.specs.Words.{has}
use Rattle.mips_instructions.specs.Instruction.{dests}
use Rattle.task_descriptor.specs.Listing.{Listing}
use Rattle.task_descriptor.specs.declared.descriptor.Marked.{Marked}
use Rattle.task_graph.specs.Edges.{MayWrite}
use Rattle.task_graph.specs.Neighbours.{Follows}

-- the mask of the index has the register; past the end no mask has any
abbrev pub may : List ℕ → (i r : ℕ) → Type 0
may masks i r = has (slice_index masks i) r ≡ true

-- the masks hold exactly what may be written from each instruction on
pub record AreExact (p : Listing) (masks : List ℕ) : Type 0 where
  pub sized : length masks ≡ length p.code
  pub exact : (i r : ℕ) → may masks i r ↔ MayWrite p i r

-- the first n masks are what the instructions write
pub record AreDestinations (code : List Marked) (n : ℕ) (masks : List ℕ) : Type 0 where
  pub sized : length masks ≡ n
  pub exact : (i : ℕ) (m : Marked) (r : ℕ) → i < n → slice_get code i ≡ Some m → has (slice_index masks i) r ≡ dests m.op r

-- lists of indices, without where they lie in memory
abbrev pub lists_of : List (Vec ℕ Global) → List (List ℕ)
lists_of lists = map (λ list. list.items) lists

-- the list of an index, which is empty past the end
abbrev pub sources_of : List (List ℕ) → ℕ → List ℕ
sources_of lists j = slice_index_or lists j []

-- the lists with a source appended to that of an index, if there is one
abbrev pub with_source : List (List ℕ) → Option ℕ → (source : ℕ) → List (List ℕ)
with_source lists None source = lists
with_source lists (Some j) source = slice_set lists j (sources_of lists j ++ source ∷ [])

-- The list at each index holds those of the first n indices that have an inner edge to it.
pub record AreLeading (p : Listing) (n : ℕ) (lists : List (List ℕ)) : Type 0 where
  pub sized : length lists ≡ length p.code
  pub exact : (i j : ℕ) → Contains (sources_of lists j) i ↔ ((i < n) × Follows p i j)

-- a number that falls when a mask grows
abbrev pub room_of : ℕ → ℕ
room_of mask = 2 ^ 34 - mask

-- what is left to do: one for each index that waits, and two for each growth of a mask
abbrev pub left_to_do : List ℕ → List ℕ → ℕ
left_to_do masks waiting = 2 * sum_by room_of masks + length waiting

-- The masks of the sources grow by a mask, and each source that grew waits.
pub record Widened (sources : List ℕ) (mask : ℕ) (old new waiting_old waiting_new : List ℕ) : Type 0 where
  pub sized : length new ≡ length old
  pub kept : (i r : ℕ) → may old i r → may new i r
  pub has_it : (i r : ℕ) → Contains sources i → has mask r ≡ true → may new i r
  pub only : (i r : ℕ) → may new i r → may old i r ⊎ (Contains sources i × (has mask r ≡ true))
  pub waits : (i r : ℕ) → may new i r → may old i r ⊎ Contains waiting_new i
  pub still_waits : (i : ℕ) → Contains waiting_old i → Contains waiting_new i
  pub waits_inside : (i : ℕ) → Contains waiting_new i → Contains waiting_old i ⊎ (i < length old)
  pub no_more_to_do : left_to_do new waiting_new ≤ left_to_do old waiting_old
