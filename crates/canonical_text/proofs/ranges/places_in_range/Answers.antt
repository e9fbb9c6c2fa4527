-- One place more.
use Rattle.canonical_text.proofs.Imports.{◌≤◌, arith}
use Rattle.canonical_text.proofs.Loops.{all_more, all_done}
use Rattle.canonical_text.proofs.ranges.places_in_range.Goals as goal

pub loop-place-preserved : goal.loop-place-preserved
loop-place-preserved c =
    all_more (λ place. place ≤ 4096) c.args.places.now c.loop-place.place-index c.place-item.result (omega arith) c.place-item.is c.within.ensures c.loop-place.invariant

pub returns : goal.returns
returns c = all_done (λ place. place ≤ 4096) c.args.places.now c.loop-place.place-index (omega arith) c.loop-place.invariant
