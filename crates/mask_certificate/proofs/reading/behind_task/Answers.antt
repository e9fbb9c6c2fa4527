-- The first line is that of the part.
use Rattle.std.proofs.Common.{◌≡◌, ℕ, List, Ok, sym, ◌∙◌, ap, subst}
use Rattle.mask_certificate.specs.CertificateReading.{lines_in, behind_task_line}
use Rattle.mask_certificate.specs.Blocks.{IsEnd}
use Rattle.mask_certificate.proofs.LeftLemmas.{cut_end, left_behind, left_refused}
use Rattle.mask_certificate.proofs.reading.behind_task.Goals as goal

pub returns : goal.returns
returns c = λ spelling.
    let left = c.args.left in
    let name = c.args.name.now in
    left_refused spelling left.rest left.behind c.rest.ensures.cut c.rest.ensures.end c.args.line name c.in-Err.fault
    (ap (λ (t : List ℕ). behind_task_line c.args.line name (lines_in spelling t)) (sym c.rest.ensures.rest) ∙ c.in-Err.ensures.lines spelling)

pub returns-in-Ok : goal.returns-in-Ok
returns-in-Ok c = λ spelling.
    let left = c.args.left in
    let name = c.args.name.now in
    let after = c.in-Ok.rest.now in
    let first : behind_task_line c.args.line name (lines_in spelling left.rest) ≡ Ok (lines_in spelling after) =
    ap (λ (t : List ℕ). behind_task_line c.args.line name (lines_in spelling t)) (sym c.rest.ensures.rest) ∙ c.in-Ok.ensures.lines spelling in
    let cut = cut_end left.rest after left.behind (subst (λ (t : List ℕ). IsEnd t after) c.rest.ensures.rest c.in-Ok.ensures.end) c.rest.ensures.cut in
    left_behind spelling left.rest left.behind c.rest.ensures.cut c.rest.ensures.end c.args.line name after cut first
    ∙ ap (λ (t : List ℕ). Ok (lines_in spelling t)) (sym c.with_rest.ensures)
