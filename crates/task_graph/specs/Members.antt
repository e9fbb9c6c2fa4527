-- Which instructions a task reaches.
use Rattle.std.specs.Prelude.{ℕ, ◌<◌, length}
use Rattle.task_descriptor.specs.Listing.{Listing}
use Rattle.task_graph.specs.Edges.{Path}

-- a path from `i` reaches the instruction `j`
pub record Reaches (p : Listing) (i j : ℕ) : Type 0 where
  pub path : Path p i j
  pub within : j < length p.code
