use Rattle.finding_paths.proofs.Refuting.{refutes}
use Rattle.finding_paths.proofs.laws.shown_is_unsound.Goals as goal

pub returns : goal.returns
returns c = refutes
