-- What the functions of this crate return, in terms of edges.
use Rattle.std.specs.Prelude.{◌≡◌, ℕ, ◌<◌, ◌≤◌, Bool, true, false, ◌||◌, nat_eq, length, slice_get, Option, Some, None}
use Rattle.task_descriptor.specs.Listing.{Listing}
use Rattle.task_descriptor.specs.declared.descriptor.Marked.{Marked}
use Rattle.task_descriptor.specs.declared.descriptor.Stop.TheVariants as stop
use Rattle.task_graph.specs.declared.edges.Next.{Next}
use Rattle.task_graph.specs.Edges.{Edge, is_indirect}

-- the option holds the index j
abbrev pub is_it : Option ℕ → ℕ → Bool
is_it None j = false
is_it (Some k) j = nat_eq k j

-- j is one of the two indices
abbrev pub is_among : Next → ℕ → Bool
is_among next j = is_it next.first j || is_it next.second j

-- The lesser index is the first, and none occurs twice.
abbrev pub InOrder : (first second : Option ℕ) → Type 0
InOrder first None = Unit {0}
InOrder None (Some j) = ⊥
InOrder (Some i) (Some j) = i < j

-- j is an inner successor of i: an inner edge leads there, and there is an instruction
pub record Follows (p : Listing) (i j : ℕ) : Type 0 where
  pub edge : Edge p false i j
  pub within : j < length p.code

-- an inner edge of i leads to no instruction
pub record FallsOff (p : Listing) (i : ℕ) : Type 0 where
  pub to : ℕ
  pub edge : Edge p false i to
  pub beyond : length p.code ≤ to

-- i is an indirect exit: a jump to an address in a register that stops always
pub record ExitsIndirectly (p : Listing) (i : ℕ) : Type 0 where
  pub at : Marked
  pub is_there : slice_get p.code i ≡ Some at
  pub indirect : is_indirect at.op ≡ true
  pub always : at.stop ≡ stop.Always
