-- A valid place is reached.
use Rattle.sequencer.proofs.Masks as masks
use Rattle.sequencer.proofs.accepted_laws.places_masked.Goals as goal

pub returns : goal.returns
returns c =
    let a = c.args.accepted.now in
    masks.places_masked a
    (c.accepted_place.ensures a.program a.cert c.kept.ensures.formed c.kept.ensures.accepted)
    (c.accepted_entry.ensures a.program a.cert c.kept.ensures.formed c.kept.ensures.accepted)
