-- Every place after a list of events is valid.
use Rattle.sequencer.proofs.accepted_laws.replayed_places_masked.Goals as goal

pub returns : goal.returns
returns c = λ units events s replay k u at. c.places_masked.ensures u
    (c.places_are_valid.ensures c.args.accepted.now.program units events s c.kept.ensures.formed c.kept.ensures.sound replay k u at)
