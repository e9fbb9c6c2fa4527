-- An accepted program is well formed and sound.
use Rattle.sequencer.proofs.accepted_laws.accepted_headline.Goals as goal

pub returns : goal.returns
returns c = λ units events s. c.headline.ensures c.args.accepted.now.program units events s c.kept.ensures.formed c.kept.ensures.sound
