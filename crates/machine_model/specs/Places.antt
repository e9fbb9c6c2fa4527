-- Where a unit may stand, on a wrong path too: at an instruction that its task reaches, or after
-- an exit.
use Rattle.std.specs.Prelude.{◌≡◌, ℕ, ◌<◌, length}
use Rattle.task_descriptor.specs.Listing.{Listing}
use Rattle.task_graph.specs.Edges.{Path}
use Rattle.machine_model.specs.Machine.{Active, task_at}
use Rattle.machine_model.specs.declared.event.Spot.TheVariants.{Inside}

-- the unit's task is one of the program's; where the unit has not stopped it stands at an instruction,
-- to which a path along inner edges leads from the task's entry
pub record PlaceValid (p : Listing) (u : Active) : Type 0 where
  pub is_task : u.task < length p.tasks
  pub is_instruction : (i : ℕ) → u.place ≡ Inside i → i < length p.code
  pub is_reached : (i : ℕ) → u.place ≡ Inside i → Path p (task_at p u.task).entry i
