-- Right places have no findings, and no findings mean right places; a task that is not there has none.
use Rattle.std.proofs.Common.{◌≡◌, None, Some, refl, ◌∙◌, ap, slice_get}
use Rattle.task_descriptor.specs.Listing.{Listing}
use Rattle.task_descriptor.specs.declared.descriptor.Descriptor.{Descriptor}
use Rattle.mask_certificate.specs.Lists.{list_of}
use Rattle.mark_checker.specs.Rules.{places}
use Rattle.mark_checker.proofs.PlaceLists.{there, not_there, rules_beside, rules_there, all_right_nothing}
use Rattle.mark_checker.proofs.accept.accepts_task.Goals as goal

pub returns-in-Some : goal.returns-in-Some
returns-in-Some c = (
  λ yes.
      let p = c.args.survey.now in
      let d : Descriptor = c.in-Some.descriptor.now in
      let es = list_of c.args.cert.now c.args.task in
      let look = c.in-Some.ensures.lookup in
      let here : slice_get p.tasks c.args.task ≡ Some d = there p.tasks c.tasks.result.now c.args.task d (c.tasks.ensures.value ∙ ap (λ (q : Listing). q.tasks) c.program.ensures) look.3.0 look.3.1 in
      rules_there p c.args.cert.now c.args.task d here ∙ all_right_nothing p d es c.args.task (places d.entry es) (c.is_task_right.ensures.right yes),
  c.is_task_right.ensures.nothing,
)

pub returns-in-None : goal.returns-in-None
returns-in-None c = (
  λ yes.
      let p = c.args.survey.now in
      let gone : slice_get p.tasks c.args.task ≡ None = not_there p.tasks c.tasks.result.now c.args.task (c.tasks.ensures.value ∙ ap (λ (q : Listing). q.tasks) c.program.ensures) c.in-None.ensures.lookup.3 in
      rules_beside p c.args.cert.now c.args.task gone,
  λ nothing. refl,
)
