-- The waits of the units so far.
use Rattle.std.proofs.Common.{◌≡◌}
use Rattle.std.specs.Prelude.{flat_map}
use Rattle.std.specs.List.{range_with_len}
use Rattle.step_picture.specs.Strips.{each_step, waits_on}
use Rattle.step_picture.proofs.strips.strips.Given as goal

abbrev pub invariant-loop-unit : goal.invariant-loop-unit
invariant-loop-unit l = flat_map each_step l.strips.items ≡ flat_map (waits_on l.waits) (range_with_len 0 l.unit)
