use Rattle.explain_report.proofs.RepairLemmas.{marks_told}
use Rattle.explain_report.proofs.laws.marks_are_told.Goals as goal

pub returns-clause-right : goal.returns-clause-right
returns-clause-right c = λ asked e h. (marks_told asked e h).0

pub returns-clause-unread : goal.returns-clause-unread
returns-clause-unread c = λ asked e h. (marks_told asked e h).1
