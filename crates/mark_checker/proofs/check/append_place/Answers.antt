use Rattle.std.proofs.Common.{◌≡◌, ◌++◌, Some, None, [], List, sym, ◌∙◌, ap, append-nil, slice_get}
use Rattle.std.proofs.lemmas.Result.{IfOk-weaker}
use Rattle.task_descriptor.specs.Listing.{Listing}
use Rattle.mark_checker.specs.declared.finding.Finding.{Finding}
use Rattle.mark_checker.specs.Rules.{conditions, rules_at}
use Rattle.mark_checker.specs.CheckerSteps.{told}
use Rattle.mark_checker.proofs.Findings.{same_found, same_clean, clean_nothing}
use Rattle.mark_checker.proofs.PlaceLists.{there, not_there, at_place, beside_place}
use Rattle.mark_checker.proofs.check.append_place.Goals as goal

pub returns-then-is_clean : goal.returns-then-is_clean
returns-then-is_clean c =
    let p = c.args.survey.now in
    let d = c.args.descriptor.now in
    let es = c.args.masks.now in
    let m = c.in-Some.marked.now in
    let i = c.args.place.0 in
    let mask = c.args.place.1 in
    let look = c.in-Some.ensures.lookup in
    let here : slice_get p.code i ≡ Some m = there p.code c.code.result.now i m (c.code.ensures.value ∙ ap (λ (q : Listing). q.code) c.program.ensures) look.3.0 look.3.1 in
    let clean = same_clean (told c.faults_at-faults.result) (conditions p d es i m mask) c.faults_at-faults.ensures (c.is_clean.ensures.clean c.if-is_clean.true) in
    let nothing : rules_at p d es c.args.task (i, mask) ≡ [] = at_place p d es c.args.task i mask m here ∙ clean_nothing c.args.task i (conditions p d es i m mask) clean in
    sym (append-nil c.args.list.now.items) ∙ ap (λ (xs : List Finding). c.args.list.now.items ++ xs) (sym nothing)

pub returns-else-is_clean : goal.returns-else-is_clean
returns-else-is_clean c =
    let p = c.args.survey.now in
    let d = c.args.descriptor.now in
    let es = c.args.masks.now in
    let m = c.in-Some.marked.now in
    let i = c.args.place.0 in
    let mask = c.args.place.1 in
    let look = c.in-Some.ensures.lookup in
    let here : slice_get p.code i ≡ Some m = there p.code c.code.result.now i m (c.code.ensures.value ∙ ap (λ (q : Listing). q.code) c.program.ensures) look.3.0 look.3.1 in
    IfOk-weaker c.append_faults.result _ _
    (λ u e. e ∙ ap (λ (xs : List Finding). c.args.list.now.items ++ xs)
    (same_found c.args.task i (told c.faults_at-faults.result) (conditions p d es i m mask) c.faults_at-faults.ensures ∙ sym (at_place p d es c.args.task i mask m here)))
    c.append_faults.ensures

pub returns-in-None : goal.returns-in-None
returns-in-None c =
    let p = c.args.survey.now in
    let d = c.args.descriptor.now in
    let es = c.args.masks.now in
    let i = c.args.place.0 in
    let mask = c.args.place.1 in
    let gone : slice_get p.code i ≡ None = not_there p.code c.code.result.now i (c.code.ensures.value ∙ ap (λ (q : Listing). q.code) c.program.ensures) c.in-None.ensures.lookup.3 in
    sym (append-nil c.args.list.now.items) ∙ ap (λ (xs : List Finding). c.args.list.now.items ++ xs) (sym (beside_place p d es c.args.task i mask gone))
