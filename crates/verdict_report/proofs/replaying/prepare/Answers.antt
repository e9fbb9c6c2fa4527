-- What is judged is the program by its certificate.
use Rattle.std.proofs.Common.{◌≡◌, ℕ, List, subst}
use Rattle.event_script.specs.EventScript.{script_of}
use Rattle.report_texts.specs.CertificateTexts.{OfCertificate}
use Rattle.report_texts.specs.JudgedTexts.{accepted, judgement}
use Rattle.report_texts.specs.Judging.{as_judgement}
use Rattle.report_texts.specs.declared.judging.Judged.{Judged}
use Rattle.verdict_report.specs.ReplayText.{IsReplayJudged, IsReplayText, IsScriptReport}
use Rattle.verdict_report.proofs.Told.{all_told, carried}
use Rattle.verdict_report.proofs.replaying.prepare.Goals as goal

pub returns-in-Accepted : goal.returns-in-Accepted
returns-in-Accepted c =
    let texts = c.args.texts.now in
    let program = texts.program.items in
    let p = c.in-Accepted.accepted.program in
    let script = IsScriptReport c.args.emit c.args.units c.args.until p in
    let judged =
    subst (λ (j : Judged). OfCertificate c.args.source program texts.certificate (λ certificate. as_judgement j ≡ judgement program certificate))
    c.in-Accepted.is c.in_ok-report.ensures in
    all_told c.prepare_script.result (script (script_of p c.deref.result.now))
    (λ report. OfCertificate c.args.source program texts.certificate (λ certificate. IsReplayText c.args.emit c.args.units c.args.until program certificate texts.script.items report))
    c.args.units
    (λ report h. carried c.args.source program texts.certificate (accepted p)
    (λ j. IsReplayJudged c.args.emit c.args.units c.args.until texts.script.items j report) judged
    (subst (λ (bytes : List ℕ). script (script_of p bytes) report) c.deref.ensures.value h))
    c.prepare_script.ensures
