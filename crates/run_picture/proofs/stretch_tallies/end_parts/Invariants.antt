-- The parts of the lives so far.
use Rattle.std.proofs.Common.{◌≡◌, ◌≤◌, length, map, take}
use Rattle.run_picture.specs.Stretches.{end_part}
use Rattle.run_picture.proofs.stretch_tallies.end_parts.Given as goal

abbrev pub invariant-loop-life : goal.invariant-loop-life
invariant-loop-life l = record {
  within : l.life-index ≤ length l.lives;
  as_many : length l.parts.items ≡ l.life-index;
  parts : l.parts.items ≡ map (end_part l.span) (take l.life-index l.lives);
}
