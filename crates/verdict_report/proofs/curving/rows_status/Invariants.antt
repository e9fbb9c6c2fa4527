-- The runs so far halted, so that the status is that of the others.
use Rattle.std.proofs.Common.{◌≡◌, drop}
use Rattle.verdict_report.specs.CurveText.{rows_status}
use Rattle.verdict_report.proofs.curving.rows_status.Given as goal

abbrev pub invariant-loop-row : goal.invariant-loop-row
invariant-loop-row l = rows_status (drop l.row-index l.rows) ≡ rows_status l.rows
