use Rattle.std.proofs.Common.{◌≡◌, ◌<◌, ◌↔◌, ◌≤◌, ℕ, Bool, true, Some, None, List, length, filter, Contains, IfOk, slice_get, get_or, sym, ◌∙◌, ap, subst, arith}
use Rattle.std.proofs.lemmas.Result.{IfOk-weaker}
use Rattle.std.proofs.lemmas.Option.{slice_get_past, slice_get-get_or}
use Rattle.task_descriptor.specs.declared.descriptor.Descriptor.{Descriptor}
use Rattle.task_graph.specs.Members.{Reaches}
use Rattle.task_graph.specs.SearchSteps.{is_marked}
use Rattle.std.specs.List.Sorted.{IsStrictlyIncreasing}
use Rattle.task_graph.proofs.Listed.{lists_exactly, rises}
use Rattle.task_graph.proofs.members.members.Goals as goal

there : (tasks found : List Descriptor) (task : ℕ) (d : Descriptor) → found ≡ tasks → task < length found
    → ((x : Descriptor) → d ≡ get_or found task x) → slice_get tasks task ≡ Some d
there tasks found task d same within is =
    subst (λ (xs : List Descriptor). slice_get xs task ≡ Some d) same
    (slice_get-get_or found task d within ∙ ap (λ (x : Descriptor). Some x) (sym (is d)))

pub returns-in_ok-marks-in-Some-clause-exact : goal.returns-in_ok-marks-in-Some-clause-exact
returns-in_ok-marks-in-Some-clause-exact c =
    let a = c.in-Some.ensures.lookup in
    let p = c.args.program.now in
    let d = c.in-Some.descriptor.now in
    let here = there p.tasks c.tasks.result.now c.args.task d c.tasks.ensures.value a.3.0 a.3.1 in
    IfOk-weaker c.marked.result _ _
    (λ v e d' is.
    let same : d ≡ d' = cc in
    lists_exactly p c.get-in-Some.result d'.entry c.deref.result.now c.in_ok-marks-in-Some.marks.items v.items
    c.deref.ensures.value e (c.get-in-Some.ensures.value ∙ ap (λ (x : Descriptor). x.entry) same) c.in_ok-marks-in-Some.ensures.exact)
    c.marked.ensures

pub returns-in_ok-marks-in-Some-clause-rising : goal.returns-in_ok-marks-in-Some-clause-rising
returns-in_ok-marks-in-Some-clause-rising c =
    IfOk-weaker c.marked.result _ _
    (λ v e. subst IsStrictlyIncreasing (sym e) (rises (is_marked c.deref.result.now) (length c.deref.result.now)))
    c.marked.ensures

pub returns-in_ok-marks-in-Some-clause-missing : goal.returns-in_ok-marks-in-Some-clause-missing
returns-in_ok-marks-in-Some-clause-missing c =
    let a = c.in-Some.ensures.lookup in
    let here = there c.args.program.now.tasks c.tasks.result.now c.args.task c.in-Some.descriptor.now c.tasks.ensures.value a.3.0 a.3.1 in
    IfOk-weaker c.marked.result _ _ (λ v e gone. absurd (cc)) c.marked.ensures

pub returns-in-None-clause-exact : goal.returns-in-None-clause-exact
returns-in-None-clause-exact c d is =
    let past : slice_get c.tasks.result.now c.args.task ≡ None = slice_get_past c.tasks.result.now c.args.task c.in-None.ensures.lookup.3 in
    let gone : slice_get c.args.program.now.tasks c.args.task ≡ None = subst (λ (xs : List Descriptor). slice_get xs c.args.task ≡ None) c.tasks.ensures.value past in
    absurd (cc)
