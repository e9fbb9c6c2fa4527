-- An accepted program is well formed and sound.
use Rattle.sequencer.proofs.accepted_laws.accepted_run_ends.Goals as goal

pub returns : goal.returns
returns c = λ units events s. c.how_a_run_ends.ensures c.args.accepted.now.program units events s c.kept.ensures.formed c.kept.ensures.sound
