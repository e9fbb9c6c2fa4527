-- What `curve` writes: the results of the runs of a program in steps, on 1, 2, 3 units and more. How they are written is
-- not said.
use Rattle.std.specs.Prelude.{◌≡◌, ℕ, List, [], ◌∷◌, nat_eq, if◌then◌else◌}
use Rattle.task_descriptor.specs.Listing.{Listing}
use Rattle.machine_model.specs.declared.event.Standing.{Standing}
use Rattle.machine_model.specs.declared.event.Standing.TheVariants.{Running, Halted, Trapped, Unlisted}
use Rattle.speed_curve.specs.Curve.{AreRows}
use Rattle.speed_curve.specs.declared.row.Row.{Row}
use Rattle.jobs.specs.declared.job.Prediction.{Prediction}
use Rattle.report_texts.specs.OutputTexts.{Report}
use Rattle.report_texts.specs.JudgedTexts.{Judgement, refused, accepted, judgement}
use Rattle.verdict_report.specs.RunText.{predictor_of}

-- the status that `run` has for a run with this standing; one that has not ended was out of budget
abbrev pub end_status : Standing → ℕ
end_status Running = 3
end_status Halted = 0
end_status (Trapped trap) = 1
end_status (Unlisted at) = 1

-- the status of the first run that did not halt; 0 where each halted
abbrev pub rows_status : List Row → ℕ
rows_status [] = 0
rows_status (row ∷ rows) = if nat_eq (end_status row.standing) 0 then rows_status rows else end_status row.standing

-- the report of the runs of a program in which nothing is found
pub record IsCurveReport (units budget : ℕ) (predict : Prediction) (p : Listing) (report : Report) : Type 0 where
  pub rows : List Row
  pub right : AreRows p budget (predictor_of predict) units rows
  pub answered : report.status ≡ rows_status rows

abbrev pub IsCurveJudged : (units budget : ℕ) → Prediction → Judgement → Report → Type 0
IsCurveJudged units budget predict (refused said) report = report ≡ said
IsCurveJudged units budget predict (accepted p) report = IsCurveReport units budget predict p report

-- what `curve` may write for a program text and the text of its certificate
abbrev pub IsCurveText : (units budget : ℕ) → Prediction → (program certificate : List ℕ) → Report → Type 0
IsCurveText units budget predict program certificate report = IsCurveJudged units budget predict (judgement program certificate) report
