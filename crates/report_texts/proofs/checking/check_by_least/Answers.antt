-- The least certificate stands for its text.
use Rattle.std.proofs.Common.{◌≡◌, []}
use Rattle.jobs.specs.declared.job.CertificateSource.TheVariants.{Least}
use Rattle.annotated_asm.specs.ProgramText.{parse}
use Rattle.mark_checker.specs.Rules.{all_rules}
use Rattle.report_texts.specs.CertificateTexts.{OfCertificate}
use Rattle.report_texts.specs.CheckText.{check_text}
use Rattle.report_texts.specs.JudgedTexts.{findings_judged, goes_on}
use Rattle.report_texts.specs.OutputTexts.{program_refused}
use Rattle.report_texts.specs.VerdictTexts.{program_accepted}
use Rattle.report_texts.proofs.Kept.{least_checked, refused_checked, told, where_ok}
use Rattle.report_texts.proofs.checking.check_by_least.Goals as goal

pub returns-in_ok-cert-in-Ok : goal.returns-in_ok-cert-in-Ok
returns-in_ok-cert-in-Ok over c =
    let program = c.args.program.now in
    let p = c.in-Ok.program in
    let cert = c.in_ok-cert-in-Ok.cert in
    where_ok c.check_marks.result (λ r. r ≡ goes_on program_accepted (findings_judged p (all_rules p cert)))
    (λ r. OfCertificate Least program [] (λ certificate. r ≡ check_text program certificate))
    (λ r h. least_checked program [] p cert r c.in-Ok.ensures.exact c.in_ok-cert-in-Ok.ensures h) c.check_marks.ensures

pub returns-in_default : goal.returns-in_default
returns-in_default over c =
    let program = c.args.program.now in
    let fault = c.in-Err.fault in
    where_ok c.refused_program.result (λ r. r ≡ program_refused fault)
    (λ r. OfCertificate Least program [] (λ certificate. r ≡ check_text program certificate))
    (λ r h. refused_checked program [] fault r (told fault (parse program) c.in_default.not-OutOfMemory c.in-Err.ensures.exact) h) c.refused_program.ensures
