use Rattle.std.proofs.Common.{◌≡◌, ◌++◌, None, List, sym, ◌∙◌, ap, append-nil, slice_get}
use Rattle.task_descriptor.specs.Listing.{Listing}
use Rattle.mark_checker.specs.declared.finding.Finding.{Finding}
use Rattle.mark_checker.proofs.PlaceLists.{not_there, rules_beside}
use Rattle.mark_checker.proofs.check.append_task.Goals as goal

pub returns-in-None : goal.returns-in-None
returns-in-None c =
    let p = c.args.survey.now in
    let gone : slice_get p.tasks c.args.task ≡ None = not_there p.tasks c.tasks.result.now c.args.task (c.tasks.ensures.value ∙ ap (λ (q : Listing). q.tasks) c.program.ensures) c.in-None.ensures.lookup.3 in
    sym (append-nil c.args.list.now.items) ∙ ap (λ (xs : List Finding). c.args.list.now.items ++ xs) (sym (rules_beside p c.args.cert.now c.args.task gone))
