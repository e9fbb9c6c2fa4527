-- The diagnostic for one finding more.
use Rattle.std.proofs.Common.{◌+◌, List, take, subst, sym}
use Rattle.std.specs.List.{AllZip}
use Rattle.diagnostics.specs.declared.diagnostic.Diagnostic.{Diagnostic}
use Rattle.mark_diagnostics.specs.Errors.{Says}
use Rattle.mark_diagnostics.proofs.Telling.{zip_more}
use Rattle.mark_diagnostics.proofs.error.told_diagnostics.Goals as goal

pub loop-finding-preserved : goal.loop-finding-preserved
loop-finding-preserved c =
    let says = Says c.args.subject.now in
    let fs = c.args.findings.now in
    let i = c.loop-finding.finding-index in
    let x = c.finding-item.result in
    subst (λ (ds : List Diagnostic). AllZip says (take (i + 1) fs) ds) (sym c.in_ok-push.ensures.items)
    (zip_more says fs c.loop-finding.list.items i x c.in_ok-said.said c.loop-finding-test.true c.finding-item.is c.loop-finding.invariant c.in_ok-said.ensures)
