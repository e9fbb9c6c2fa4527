-- What the code keeps while it finds the marks to propose, and puts them in.
use Rattle.std.specs.Prelude.{◌≡◌, ℕ, ◌↔◌, ◌<◌, ◌⊎◌, Bool, true, false, List, [], ◌∷◌, map, length, slice_get, slice_index, slice_index_or, Some, Contains}
use Rattle.mips_instructions.specs.Words.{has}
use Rattle.task_descriptor.specs.Listing.{Listing, has_destination}
use Rattle.task_descriptor.specs.declared.descriptor.Marked.{Marked}
use Rattle.task_descriptor.specs.declared.descriptor.Descriptor.{Descriptor}
use Rattle.task_graph.specs.SearchSteps.{is_marked}
use Rattle.task_graph.specs.Edges.{MayWrite}
use Rattle.task_graph.specs.Neighbours.{Follows}
use Rattle.annotator.specs.Proposed.{produces, Produces, IsMember, WritesLast}

-- the indices of entries
abbrev pub indices_of : List (ℕ × ℕ) → List ℕ
indices_of list = map (λ entry. entry.0) list

-- the marks with those of some indices set as well
pub record AreMarked (indices : List ℕ) (old new : List Bool) : Type 0 where
  pub sized : length new ≡ length old
  pub kept : (i : ℕ) → is_marked old i ≡ true → is_marked new i ≡ true
  pub set : (i : ℕ) → Contains indices i → is_marked new i ≡ true
  pub only : (i : ℕ) → is_marked new i ≡ true → (is_marked old i ≡ true) ⊎ Contains indices i

-- the marks are those of the instructions that some of the first n tasks reach
pub record AreMembers (p : Listing) (n : ℕ) (marks : List Bool) : Type 0 where
  pub sized : length marks ≡ length p.code
  pub reached : (i : ℕ) (m : IsMember p i) → m.task < n → is_marked marks i ≡ true
  pub only : (i : ℕ) → is_marked marks i ≡ true → IsMember p i

-- some path from an inner successor of the instruction at i writes the register
pub record WrittenBehind (p : Listing) (i r : ℕ) : Type 0 where
  pub next : ℕ
  pub follows : Follows p i next
  pub writes : MayWrite p next r

-- an instruction at one of the indices writes or releases the register
pub record ProducedAt (code : List Marked) (indices : List ℕ) (r : ℕ) : Type 0 where
  pub place : ℕ
  pub listed : Contains indices place
  pub at : Marked
  pub is_there : slice_get code place ≡ Some at
  pub produced : produces at.op r ≡ true

-- the create masks to propose for the first n tasks
pub record AreCreates (p : Listing) (n : ℕ) (creates : List ℕ) : Type 0 where
  pub sized : length creates ≡ n
  pub exact : (t : ℕ) (d : Descriptor) (r : ℕ) → t < n → slice_get p.tasks t ≡ Some d → (has (slice_index creates t) r ≡ true) ↔ Produces p d r

-- the forward bits to propose for the first n instructions
pub record AreForwards (p : Listing) (n : ℕ) (forwards : List Bool) : Type 0 where
  pub sized : length forwards ≡ n
  pub member : (i : ℕ) (m : Marked) → i < n → slice_get p.code i ≡ Some m → IsMember p i → (is_marked forwards i ≡ true) ↔ WritesLast p i m.op
  pub beside : (i : ℕ) (m : Marked) → i < n → slice_get p.code i ≡ Some m → (IsMember p i → ⊥) → is_marked forwards i ≡ m.forward
  pub fits : (i : ℕ) (m : Marked) → i < n → slice_get p.code i ≡ Some m → is_marked forwards i ≡ true → has_destination m.op ≡ true

-- the instructions with other forward bits, and the descriptors with other create masks, as far as there
-- are any
abbrev pub with_forwards : List Marked → List Bool → List Marked
with_forwards [] forwards = []
with_forwards (m ∷ ms) [] = m ∷ ms
with_forwards (m ∷ ms) (forward ∷ forwards) = record m { forward = forward } ∷ with_forwards ms forwards

abbrev pub with_creates : List Descriptor → List ℕ → List Descriptor
with_creates [] creates = []
with_creates (d ∷ ds) [] = d ∷ ds
with_creates (d ∷ ds) (create ∷ creates) = record d { create = create } ∷ with_creates ds creates

-- the program with them
abbrev pub with_marks : Listing → List Bool → List ℕ → Listing
with_marks p forwards creates = record p { code = with_forwards p.code forwards; tasks = with_creates p.tasks creates }
