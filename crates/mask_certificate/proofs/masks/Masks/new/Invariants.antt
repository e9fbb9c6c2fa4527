-- The positions so far stand at their entries' indices.
use Rattle.std.proofs.Common.{◌≡◌, length}
use Rattle.mask_certificate.proofs.Rising.{HasPositions}
use Rattle.mask_certificate.proofs.masks.Masks.new.Given as goal

abbrev pub invariant-loop-position : goal.invariant-loop-position
invariant-loop-position l = record {
  sized : length l.positions ≡ 4096;
  so_far : HasPositions l.entries l.positions l.position;
}
