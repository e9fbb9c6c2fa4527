-- What `annotate --releases` writes.
use Rattle.std.specs.Prelude.{◌≡◌, ◌≢◌}
use Rattle.jobs.specs.declared.job.Job.{Job}
use Rattle.jobs.specs.declared.job.Texts.{Texts}
use Rattle.release_proposals.specs.Paying.{IsReleased}
use Rattle.report_texts.specs.OutputTexts.{Report}
use Rattle.verdict_report.specs.JobTexts.{IsReportOf}

-- a report with the releases that pay, or of a refusal as it is
pub record IsWith (marked report : Report) : Type 0 where
  pub status : report.status ≡ marked.status
  pub refused : marked.status ≢ 0 → report.bytes ≡ marked.bytes
  pub released : marked.status ≡ 0 → IsReleased marked.bytes report.bytes

-- what a job writes, with the releases that pay
pub record IsReportWith (job : Job) (texts : Texts) (report : Report) : Type 0 where
  pub marked : Report
  pub right : IsReportOf job texts marked
  pub releases : IsWith marked report
