-- The events of a step. For private functions.
use Rattle.std.specs.Prelude.{◌≡◌, ℕ, ◌+◌, List, Some, position, take}
use Rattle.machine_model.specs.declared.event.Event.{Event}
use Rattle.unit_waits.specs.Waits.{ends_step}

-- those up to the first of the events that are left that ends a step, which began with `active` units at work
pub record IsStepOf (active : ℕ) (left events : List Event) : Type 0 where
  pub last : ℕ
  pub found : position (λ e. ends_step active e) left ≡ Some last
  pub are : events ≡ take (last + 1) left
