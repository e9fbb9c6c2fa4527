-- The parts so far.
use Rattle.std.proofs.Common.{◌≡◌, ◌++◌}
use Rattle.std.specs.Prelude.{flat_map}
use Rattle.std.specs.List.{range_with_len}
use Rattle.run_picture.specs.Meanings.{meanings}
use Rattle.run_picture.proofs.Parts.{part_told}
use Rattle.run_picture.proofs.stretches.push_shares.Given as goal

abbrev pub invariant-loop-part : goal.invariant-loop-part
invariant-loop-part l =
    meanings l.shapes.items ≡ meanings l.initial.shapes.items ++ flat_map (part_told l.chart) (range_with_len 0 l.part)
