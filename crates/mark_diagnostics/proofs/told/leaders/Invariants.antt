-- What stands for the registers below the number.
use Rattle.std.proofs.Common.{◌≡◌}
use Rattle.std.specs.List.{flat_map}
use Rattle.std.specs.Option.{option_to_list}
use Rattle.task_descriptor.specs.Listing.{numbers_below}
use Rattle.mark_diagnostics.specs.Told.{leader}
use Rattle.mark_diagnostics.proofs.told.leaders.Given as goal

abbrev pub invariant-loop-number : goal.invariant-loop-number
invariant-loop-number l = l.list.items ≡ flat_map (λ r. option_to_list (leader l.findings r)) (numbers_below l.number)
