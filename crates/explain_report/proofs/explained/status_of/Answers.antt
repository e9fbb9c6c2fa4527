-- An error of the marks is one.
use Rattle.std.proofs.Common.{sym}
use Rattle.explain_report.proofs.Silence.{some_wrong}
use Rattle.explain_report.proofs.explained.status_of.Goals as goal

pub returns-in-len1-up : goal.returns-in-len1-up
returns-in-len1-up c = sym (some_wrong c.args.errors.now c.args.beside.now c.in-len1-up.len_at_least)
