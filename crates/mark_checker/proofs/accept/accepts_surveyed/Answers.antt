use Rattle.std.proofs.Common.{◌≡◌, ◌<◌, ℕ, Some, true, List, refl, sym, ◌∙◌, ap, subst, arith, length, slice_get, inl, inr, rules as all}
use Rattle.std.proofs.lemmas.Bool.{not-false, cases_lt}
use Rattle.std.proofs.lemmas.Option.{slice_get_read}
use Rattle.task_descriptor.specs.Listing.{Listing, IsWellFormed}
use Rattle.task_descriptor.specs.declared.descriptor.Descriptor.{Descriptor}
use Rattle.mask_certificate.specs.Lists.{list_of}
use Rattle.mark_checker.specs.Rules.{rules, places}
use Rattle.mark_checker.specs.Places.{AllRight}
use Rattle.mark_checker.proofs.PlaceLists.{accepted, nothing_in_range}
use Rattle.mark_checker.proofs.accept.accepts_surveyed.Goals as goal

pub returns-then-not-is_task_right-clause-exact : goal.returns-then-not-is_task_right-clause-exact
returns-then-not-is_task_right-clause-exact c = (
  λ h. absurd (cc),
  λ nothing.
      let p = c.args.survey.now in
      let are : c.tasks-descriptor-items.result.now ≡ p.tasks = c.tasks-descriptor-items.ensures.value ∙ ap (λ (q : Listing). q.tasks) c.program.ensures in
      let less : c.loop-task.task < length p.tasks = subst (λ (xs : List Descriptor). c.loop-task.task < length xs) are c.loop-task-test.true in
      let right : c.is_task_right.result ≡ true =
      c.is_task_right.ensures.nothing
      (nothing_in_range (rules p c.args.cert.now) 0 (length p.tasks) nothing c.loop-task.task (omega arith) (omega arith)) in
      let wrong = c.if-not-is_task_right.true in
      first_of (cc (right, wrong), grind arith),
)

pub loop-task-preserved : goal.loop-task-preserved
loop-task-preserved c t d less is =
    let p = c.args.survey.now in
    let item = c.descriptor-item.result in
    let are : c.tasks-descriptor-items.result.now ≡ p.tasks = c.tasks-descriptor-items.ensures.value ∙ ap (λ (q : Listing). q.tasks) c.program.ensures in
    let here : slice_get p.tasks c.loop-task.task ≡ Some item =
    subst (λ (xs : List Descriptor). slice_get xs c.loop-task.task ≡ Some item) are
    (slice_get_read c.tasks-descriptor-items.result.now (length c.tasks-descriptor-items.result.now) c.loop-task.task item refl c.loop-task-test.true c.descriptor-item.is) in
    let said = c.if-not-is_task_right.false in
    let right : c.is_task_right.result ≡ true = first_of (cc said, search (all, not-false), grind arith) in
    elim (cases_lt t c.loop-task.task) [
      | inl before ↦ c.loop-task.invariant t d before is
      | inr last ↦
          let same : t ≡ c.loop-task.task = omega arith in
          let is_item : slice_get p.tasks c.loop-task.task ≡ Some d = subst (λ (n : ℕ). slice_get p.tasks n ≡ Some d) same is in
          let d_same : item ≡ d = cc (here, is_item) in
          subst (λ (n : ℕ). AllRight p d (list_of c.args.cert.now n) (places d.entry (list_of c.args.cert.now n))) (sym same)
          (subst (λ (e : Descriptor). AllRight p e (list_of c.args.cert.now c.loop-task.task) (places e.entry (list_of c.args.cert.now c.loop-task.task))) d_same
          (c.is_task_right.ensures.right right))
    ]

pub returns-clause-exact : goal.returns-clause-exact
returns-clause-exact c =
    let p = c.args.survey.now in
    let len : length c.tasks-descriptor-items.result.now ≡ length p.tasks = ap (λ (xs : List Descriptor). length xs) (c.tasks-descriptor-items.ensures.value ∙ ap (λ (q : Listing). q.tasks) c.program.ensures) in (
      λ h. (accepted p c.args.cert.now (subst (λ (q : Listing). IsWellFormed q) c.program.ensures c.tasks-descriptor-items.ensures.well_formed) (λ t d less is. c.loop-task.invariant t d (omega arith) is)).nothing_found,
      λ h. refl,
    )

pub returns-clause-accepted : goal.returns-clause-accepted
returns-clause-accepted c h =
    let p = c.args.survey.now in
    let len : length c.tasks-descriptor-items.result.now ≡ length p.tasks = ap (λ (xs : List Descriptor). length xs) (c.tasks-descriptor-items.ensures.value ∙ ap (λ (q : Listing). q.tasks) c.program.ensures) in
    accepted p c.args.cert.now (subst (λ (q : Listing). IsWellFormed q) c.program.ensures c.tasks-descriptor-items.ensures.well_formed) (λ t d less is. c.loop-task.invariant t d (omega arith) is)
