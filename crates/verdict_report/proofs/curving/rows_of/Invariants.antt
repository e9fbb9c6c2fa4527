-- The rows so far are those of the runs so far, each with its line.
use Rattle.speed_curve.specs.Curve.{AreRows}
use Rattle.verdict_report.specs.CurveProgress.{IsSaidIf, run_lines}
use Rattle.verdict_report.specs.RunText.{predictor_of}
use Rattle.verdict_report.proofs.curving.rows_of.Given as goal

abbrev pub invariant-loop-count : goal.invariant-loop-count
invariant-loop-count g l = AreRows l.accepted.program l.events (predictor_of l.predict) l.count l.rows.items
    × IsSaidIf l.asked l.is_told (run_lines l.name l.last l.count) (g.E.Write.contents l.initial.errors) (g.E.Write.contents l.errors)
