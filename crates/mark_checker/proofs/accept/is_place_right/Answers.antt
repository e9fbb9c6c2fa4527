use Rattle.std.proofs.Common.{◌≡◌, Some, None, sym, ◌∙◌, ap, slice_get}
use Rattle.task_descriptor.specs.Listing.{Listing}
use Rattle.mark_checker.specs.Rules.{conditions}
use Rattle.mark_checker.specs.CheckerSteps.{told}
use Rattle.mark_checker.proofs.Findings.{same_found}
use Rattle.mark_checker.proofs.PlaceLists.{there, not_there, at_place}
use Rattle.mark_checker.proofs.accept.is_place_right.Goals as goal

pub returns-in-Some-clause-nothing : goal.returns-in-Some-clause-nothing
returns-in-Some-clause-nothing c task nothing =
    let p = c.args.survey.now in
    let d = c.args.descriptor.now in
    let es = c.args.masks.now in
    let m = c.in-Some.marked.now in
    let look = c.in-Some.ensures.lookup in
    let here : slice_get p.code c.args.index ≡ Some m = there p.code c.code.result.now c.args.index m (c.code.ensures.value ∙ ap (λ (q : Listing). q.code) c.program.ensures) look.3.0 look.3.1 in
    c.is_clean.ensures.nothing task c.args.index
    (same_found task c.args.index (told c.faults_at.result) (conditions p d es c.args.index m c.args.mask) c.faults_at.ensures
    ∙ sym (at_place p d es task c.args.index c.args.mask m here) ∙ nothing)

pub returns-in-None-clause-right : goal.returns-in-None-clause-right
returns-in-None-clause-right c holds m is =
    let gone : slice_get c.args.survey.now.code c.args.index ≡ None = not_there c.args.survey.now.code c.code.result.now c.args.index (c.code.ensures.value ∙ ap (λ (q : Listing). q.code) c.program.ensures) c.in-None.ensures.lookup.3 in
    absurd (cc)
