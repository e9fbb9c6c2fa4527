-- One entry more is passed.
use Rattle.std.proofs.Common.{◌<◌, ◌^◌, ℕ, subst, arith}
use Rattle.std.specs.List.{All}
use Rattle.std.proofs.lemmas.List.{take_all}
use Rattle.mask_certificate.proofs.Rising.{fault_more, masks_more}
use Rattle.mask_certificate.proofs.certificate.fault_of.Goals as goal

pub loop-place-preserved : goal.loop-place-preserved
loop-place-preserved c =
    let list = c.args.list.now in
    let place = c.loop-place.place in
    let entry = c.index-list-place.result in
    let small : entry.1 < 2 ^ 34 = omega (arith, c.bits-bits.ensures.value, c.bits-bits.ensures.range) in
    record {
      left = fault_more c.args.task place c.loop-place.least list entry _ c.loop-place-test.true c.index-list-place.is (omega arith) (omega arith) c.loop-place.invariant.left;
      masks = masks_more list place entry c.loop-place-test.true c.index-list-place.is small c.loop-place.invariant.masks;
    }

pub returns-clause-masks : goal.returns-clause-masks
returns-clause-masks c = subst (All (λ (entry : ℕ × ℕ). entry.1 < 2 ^ 34)) (take_all c.loop-place.place c.args.list.now (omega arith)) c.loop-place.invariant.masks
