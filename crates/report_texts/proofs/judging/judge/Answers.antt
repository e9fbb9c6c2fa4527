-- The least certificate stands for its text.
use Rattle.std.proofs.Common.{◌≡◌, ◌∙◌, Ok, ap, sym}
use Rattle.annotated_asm.specs.ProgramText.{parse}
use Rattle.report_texts.specs.CertificateTexts.{OfCertificate}
use Rattle.report_texts.specs.Judging.{IsLeastJudged, as_judgement}
use Rattle.report_texts.specs.JudgedTexts.{judgement}
use Rattle.report_texts.proofs.Kept.{by_least, least_judged, where_ok}
use Rattle.report_texts.proofs.judging.judge.Goals as goal

pub returns-in-Least : goal.returns-in-Least
returns-in-Least c =
    let program = c.args.texts.now.program.items in
    let file = c.args.texts.now.certificate in
    let p = c.in-Ok.program in
    let spelled : parse program ≡ Ok p = ap parse (sym c.deref.ensures.value) ∙ c.in-Ok.ensures.exact in
    where_ok c.judge_by_least.result (λ j. IsLeastJudged p (as_judgement j))
    (λ j. OfCertificate c.args.source program file (λ certificate. as_judgement j ≡ judgement program certificate))
    (λ j h. by_least c.args.source program file (λ certificate. as_judgement j ≡ judgement program certificate) c.in-Least.is (least_judged program file p j spelled h))
    c.judge_by_least.ensures
