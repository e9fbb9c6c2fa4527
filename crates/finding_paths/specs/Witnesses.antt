-- What a witness is: a path along inner edges, given by the indices that it visits.
--
-- Inner edges and paths are those of the task (the stop marks of Sohi, Breach, Vijaykumar,
-- "Multiscalar Processors", ISCA 1995, section 2.2, say where it ends); witnesses are this project's choice.
use Rattle.std.specs.Prelude.{◌≡◌, ℕ, Bool, true, false, nat_eq, List, [], ◌∷◌, ◌++◌, length, ◌≤◌, slice_get, Option, Some, None}
use Rattle.mips_instructions.specs.Instruction.{dests}
use Rattle.task_descriptor.specs.Listing.{Listing}
use Rattle.task_descriptor.specs.declared.descriptor.Marked.{Marked}
use Rattle.task_graph.specs.Edges.{Edge, Path, stay, onward}
use Rattle.finding_paths.specs.declared.sought.Sought.{Sought}
use Rattle.finding_paths.specs.declared.sought.Sought.TheVariants.{At, Writes}

-- Whether the instruction at `i` is sought; where there is none, nothing is.
abbrev pub is_sought_at : Option Marked → Sought → (i : ℕ) → Bool
is_sought_at None sought i = false
is_sought_at (Some m) (At index) i = nat_eq i index
is_sought_at (Some m) (Writes r) i = dests m.op r

abbrev pub is_sought : Listing → Sought → (i : ℕ) → Bool
is_sought p sought i = is_sought_at (slice_get p.code i) sought i

-- The indices that a path visits, in order, with both ends.
abbrev pub indices : (p : Listing) (i k : ℕ) → Path p i k → List ℕ
indices p i k stay = i ∷ []
indices p i k (onward {j = j} path edge) = indices p i j path ++ k ∷ []

-- The list holds the indices of a path.
pub record ListsPath (p : Listing) (i k : ℕ) (list : List ℕ) : Type 0 where
  pub path : Path p i k
  pub along : list ≡ indices p i k path

-- A path of at least one edge; `edge` is its last.
pub record Onward (p : Listing) (i k : ℕ) : Type 0 where
  pub before : ℕ
  pub path : Path p i before
  pub edge : Edge p false before k

-- The list is a witness: the indices of a path to what is sought.
pub record LeadsTo (p : Listing) (start : ℕ) (sought : Sought) (list : List ℕ) : Type 0 where
  pub to : ℕ
  pub path : Path p start to
  pub along : list ≡ indices p start to path
  pub is_it : is_sought p sought to ≡ true

-- Like `LeadsTo`, but for a path of at least one edge.
pub record LeadsOnward (p : Listing) (start : ℕ) (sought : Sought) (list : List ℕ) : Type 0 where
  pub to : ℕ
  pub onward : Onward p start to
  pub along : list ≡ indices p start onward.before onward.path ++ to ∷ []
  pub is_it : is_sought p sought to ≡ true

-- No such list is shorter.
abbrev pub NoneShorter : (List ℕ → Type 0) → List ℕ → Type 0
NoneShorter such list = (other : List ℕ) → such other → length list ≤ length other
