-- What a job writes for its texts, and the status.
use Rattle.std.specs.Prelude.{◌≡◌, ℕ, List, Option}
use Rattle.std.specs.Option.{option_map}
use Rattle.std.specs.String.{string_bytes}
use Rattle.report_texts.specs.OutputTexts.{Report}
use Rattle.report_texts.specs.SeqText.{seq_text}
use Rattle.report_texts.specs.PrintText.{IsPrintReport}
use Rattle.report_texts.specs.CheckText.{IsCheckReport, check_text}
use Rattle.verdict_report.specs.ReplayText.{IsReplayText}
use Rattle.verdict_report.specs.RunText.{IsRunText}
use Rattle.verdict_report.specs.CurveText.{IsCurveText}
use Rattle.verdict_report.specs.Delivering.{IsAdded, IsBegun}
use Rattle.report_texts.specs.AnnotateText.{IsAnnotateReport}
use Rattle.report_texts.specs.CertificateTexts.{OfCertificate}
use Rattle.demonstration.specs.DemonstrateText.{IsDemonstrateReport}
use Rattle.explain_report.specs.Explained.{IsExplainReport}
use Rattle.strict_replay.specs.StrictReplay.{IsStrictReport}
use Rattle.jobs.specs.declared.job.Job.{Job}
use Rattle.jobs.specs.declared.job.Job.TheVariants.{Seq, Print, Annotate, Explain, Check, Replay, ReplayStrictly, Run, Curve, Demonstrate}
use Rattle.jobs.specs.declared.job.Texts.{Texts}

-- what a job may write for its texts, and the status; how many threads there are does not matter. Where the form is this
-- program's own, the status and what is written of is known, and not its bytes. With the least certificate it is what the job writes with the text of `annotate --emit keep` in its place
abbrev pub IsReportOf : Job → Texts → Report → Type 0
IsReportOf (Seq budget) texts report = report ≡ seq_text budget texts.program.items
IsReportOf (Print listing) texts report = IsPrintReport listing texts.program.items report
IsReportOf (Annotate emit) texts report = IsAnnotateReport emit texts.program.items report
IsReportOf (Explain name certificate script warnings format colors) texts report =
    IsExplainReport (option_map string_bytes certificate) (option_map string_bytes script) warnings texts.program.items texts.certificate texts.script.items report
IsReportOf (Check source workers format) texts report =
    (said : Report) × OfCertificate source texts.program.items texts.certificate (λ certificate. said ≡ check_text texts.program.items certificate)
    × IsCheckReport format said report
IsReportOf (Replay source units emit until) texts report =
    OfCertificate source texts.program.items texts.certificate (λ certificate. IsReplayText emit units until texts.program.items certificate texts.script.items report)
IsReportOf (ReplayStrictly source units complete format) texts report =
    OfCertificate source texts.program.items texts.certificate (λ certificate. IsStrictReport complete units texts.program.items certificate texts.script.items report)
IsReportOf (Run source schedule units workers budget predict emit) texts report =
    OfCertificate source texts.program.items texts.certificate (λ certificate.
    IsRunText schedule units budget predict emit texts.program.items certificate report)
IsReportOf (Curve source units budget predict emit) texts report =
    OfCertificate source texts.program.items texts.certificate (λ certificate.
    IsCurveText units budget predict texts.program.items certificate report)
IsReportOf (Demonstrate units steps emit) texts report = IsDemonstrateReport units steps texts.program.items report

-- a job is done: a report of it was added to what the writer holds, and the status is its
abbrev pub IsDone : Job → Texts → (status : ℕ) → (old new : Option (List ℕ)) → Type 0
IsDone job texts status old new = IsAdded (IsReportOf job texts) status old new

-- it could not be written whole: what was written is a beginning of a report of the job
abbrev pub IsCutOff : Job → Texts → (old new : Option (List ℕ)) → Type 0
IsCutOff job texts old new = IsBegun (IsReportOf job texts) old new
