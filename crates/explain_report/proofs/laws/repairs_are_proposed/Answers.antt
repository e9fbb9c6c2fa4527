use Rattle.explain_report.proofs.RepairLemmas.{authors, right_repaired}
use Rattle.explain_report.proofs.laws.repairs_are_proposed.Goals as goal

pub returns-clause-authors : goal.returns-clause-authors
returns-clause-authors c = authors

pub returns-clause-right : goal.returns-clause-right
returns-clause-right c = right_repaired
