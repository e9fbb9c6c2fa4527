-- What acceptance says of one place.
use Rattle.sequencer.proofs.Masks as masks
use Rattle.sequencer.proofs.accepted_laws.masks_fit.Goals as goal

pub returns : goal.returns
returns c =
    let a = c.args.accepted.now in
    masks.masks_fit a (c.accepted_place.ensures a.program a.cert c.kept.ensures.formed c.kept.ensures.accepted)
