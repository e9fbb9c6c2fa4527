-- One position more stands at its entry's index.
use Rattle.std.proofs.Common.{◌≡◌, ℕ, ◌∙◌, ap, arith, get_or}
use Rattle.std.proofs.Math.ListN.{length-set}
use Rattle.std.proofs.lemmas.List.{get_or_default}
use Rattle.mask_certificate.proofs.Rising.{position_small, index_small, positions_more}
use Rattle.mask_certificate.proofs.masks.Masks.new.Goals as goal

pub overflow_cast-positions : goal.overflow_cast-positions
overflow_cast-positions c =
    let before = position_small c.args.entries.now c.requires c.loop-position.position c.loop-position-test.true in
    let within = index_small c.args.entries.now c.requires c.loop-position.position c.loop-position-test.true in
    omega arith

pub loop-position-preserved : goal.loop-position-preserved
loop-position-preserved c =
    let entries = c.args.entries.now in
    let n = c.loop-position.position in
    let entry = c.index-entries-position.result in
    let is : entry.0 ≡ (get_or entries n (0, 0)).0 =
    ap (λ (e : ℕ × ℕ). e.0) (c.index-entries-position.is ∙ get_or_default entries n entry (0, 0) c.loop-position-test.true) in
    record {
      sized = simp length-set c.loop-position.invariant.sized;
      so_far = positions_more entries c.requires c.loop-position.positions n entry.0 c.loop-position-test.true is c.loop-position.invariant.sized c.loop-position.invariant.so_far;
    }
