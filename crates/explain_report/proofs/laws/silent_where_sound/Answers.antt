use Rattle.explain_report.proofs.Silence.{silent_said, silent_status}
use Rattle.explain_report.proofs.laws.silent_where_sound.Goals as goal

pub returns-clause-said : goal.returns-clause-said
returns-clause-said c = silent_said

pub returns-clause-status : goal.returns-clause-status
returns-clause-status c = silent_status
