use Rattle.annotator.proofs.Decides.{least_accepted}
use Rattle.annotator.proofs.soundness.is_sound.Goals as goal

pub returns : goal.returns
returns c = (
  λ yes. (c.accepts.ensures.accepted yes).sound,
  λ sound. c.accepts.ensures.exact.1 (least_accepted c.args.program.now c.in_ok-cert.cert c.in_ok-cert.ensures.well_formed c.in_ok-cert.ensures.least sound).nothing_found,
)
