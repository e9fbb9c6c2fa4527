-- An accepted program is well formed and sound.
use Rattle.sequencer.proofs.accepted_laws.accepted_never_stuck.Goals as goal

pub returns : goal.returns
returns c = λ units events s. c.never_stuck.ensures c.args.accepted.now.program units events s c.kept.ensures.formed c.kept.ensures.sound
