-- What was told of the events is a report, or a beginning of one.
use Rattle.std.proofs.Common.{ℕ, List, Option, subst}
use Rattle.report_texts.specs.OutputTexts.{Report}
use Rattle.report_texts.specs.CertificateTexts.{OfCertificate}
use Rattle.verdict_report.specs.Prepared.{LeadsTo}
use Rattle.verdict_report.specs.ReplayText.{IsReplayText}
use Rattle.verdict_report.specs.declared.replaying.Prepared.{Prepared}
use Rattle.verdict_report.proofs.Told.{told_done, told_begun}
use Rattle.verdict_report.proofs.serve.write_replay.Goals as goal

pub returns-in-Told-clause-done : goal.returns-in-Told-clause-done
returns-in-Told-clause-done g c =
    let texts = c.args.texts.now in
    let right : Report → Type 0 =
    λ report. OfCertificate c.args.source texts.program.items texts.certificate (λ certificate. IsReplayText c.args.emit c.args.units c.args.until texts.program.items certificate texts.script.items report) in
    let any = subst (λ (prepared : Prepared). LeadsTo right c.args.units prepared) c.in-Told.is c.in_ok-report.ensures in
    told_done c.tell_events.result right c.args.units c.in-Told.accepted.program c.in-Told.events.items
    (g.W.Write.contents c.args.writer.now) (g.W.Write.contents c.tell_events.new.writer) any (rw (← c.as_slice.ensures.value) c.tell_events.ensures.status) c.tell_events.ensures.grows

pub returns-in-Told-clause-begun : goal.returns-in-Told-clause-begun
returns-in-Told-clause-begun g c =
    let texts = c.args.texts.now in
    let right : Report → Type 0 =
    λ report. OfCertificate c.args.source texts.program.items texts.certificate (λ certificate. IsReplayText c.args.emit c.args.units c.args.until texts.program.items certificate texts.script.items report) in
    let any = subst (λ (prepared : Prepared). LeadsTo right c.args.units prepared) c.in-Told.is c.in_ok-report.ensures in
    told_begun c.tell_events.result right c.args.units c.in-Told.accepted.program c.in-Told.events.items
    (g.W.Write.contents c.args.writer.now) (g.W.Write.contents c.tell_events.new.writer) any c.tell_events.ensures.grows
