use Rattle.annotator.proofs.Imports.{◌≡◌, ℕ, length, refl, subst, arith, slice_get_read, AreDestinations}
use Rattle.annotator.proofs.Spread.{destinations_none, destinations_more}
use Rattle.annotator.proofs.masks.destinations.Goals as goal

pub loop-marked-init : goal.loop-marked-init
loop-marked-init c = destinations_none c.args.code.now c.in_ok-masks.masks.items c.in_ok-masks.ensures.items

pub loop-marked-preserved : goal.loop-marked-preserved
loop-marked-preserved c =
    destinations_more c.args.code.now c.loop-marked.marked-index c.loop-marked.masks.items c.push.new.self.items c.marked-item.result c.dests.result
    c.in_ok-push.ensures.items (slice_get_read c.args.code.now (length c.args.code.now) c.loop-marked.marked-index c.marked-item.result refl c.loop-marked-test.true c.marked-item.is)
    c.dests.ensures c.loop-marked.invariant

pub returns : goal.returns
returns c =
    let end : c.loop-marked.marked-index ≡ length c.args.code.now = omega arith in
    subst (λ (n : ℕ). AreDestinations c.args.code.now n c.loop-marked.masks.items) end c.loop-marked.invariant
