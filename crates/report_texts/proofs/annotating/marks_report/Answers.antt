-- The answer is what the text with the marks came to.
use Rattle.std.proofs.Common.{◌≡◌, Some, Ok, Err, ap, sym}
use Rattle.report_texts.specs.OutputTexts.{Report}
use Rattle.report_texts.specs.AnnotateText.{IsMarksAnswer, marks_report}
use Rattle.report_texts.proofs.Kept.{where_ok}
use Rattle.report_texts.proofs.annotating.marks_report.Goals as goal

pub returns-in-Ok : goal.returns-in-Ok
returns-in-Ok c = record { answer = Ok c.in-Ok.bytes.items; right = c.in-Ok.ensures; written = ap (λ (r : Report). Some r) (sym c.new.ensures) }

pub returns-in-Err : goal.returns-in-Err
returns-in-Err c =
    where_ok c.refused_marks.result (λ report. marks_report (Err c.in-Err.fault) ≡ Some report) (λ report. IsMarksAnswer c.args.text.now c.args.program.now report)
    (λ report said. record { answer = Err c.in-Err.fault; right = c.in-Err.ensures; written = said }) c.refused_marks.ensures
