use Rattle.annotator.proofs.Imports.{◌≡◌, ◌<◌, ◌++◌, ◌∷◌, [], ℕ, None, List, length, map, sym, ◌∙◌, ap, subst, arith, Global, Vec, map-append, length-map, slice_get_within, Descriptor, limits, entries_of, first_fault, IsLeast, AreExact}
use Rattle.annotator.proofs.LeastMasks.{below_none, below_more, below_rises, below_whole, no_fault}
use Rattle.annotator.proofs.certify.certificate.Goals as goal

pub loop-task-init : goal.loop-task-init
loop-task-init c = below_none c.args.program.now (entries_of c.in_ok-lists.lists.items) (ap (λ (xs : List (Vec (ℕ × ℕ) Global)). entries_of xs) c.in_ok-lists.ensures.items)

pub list_of_task-requires : goal.list_of_task-requires
list_of_task-requires c = record {
  masks = c.requires;
  well_formed = c.tasks-count.ensures.well_formed;
  there = subst (λ (ts : List Descriptor). c.loop-task.task < length ts) c.tasks-count.ensures.value c.loop-task-test.true;
}

pub loop-task-preserved : goal.loop-task-preserved
loop-task-preserved c =
    below_more c.args.program.now c.loop-task.task (entries_of c.loop-task.lists.items) (entries_of c.push.new.self.items) c.in_ok-list_of_task.field-0.items
    (ap (λ (xs : List (Vec (ℕ × ℕ) Global)). entries_of xs) c.in_ok-push.ensures.items
    ∙ map-append (λ (v : Vec (ℕ × ℕ) Global). v.items) c.loop-task.lists.items (c.in_ok-list_of_task.field-0 ∷ []))
    c.in_ok-list_of_task.ensures c.loop-task.invariant

pub build-requires : goal.build-requires
build-requires c =
    let few = (limits c.args.program.now c.tasks-count.ensures.well_formed).tasks in
    let count : length c.tasks-count.result.now ≡ length c.args.program.now.tasks = ap (λ (ts : List Descriptor). length ts) c.tasks-count.ensures.value in
    omega (arith, c.loop-task.lists.ok.0, c.loop-task.invariant.sized, length-map c.loop-task.lists.items (λ (v : Vec (ℕ × ℕ) Global). v.items))

pub unreachable-requires : goal.unreachable-requires
unreachable-requires c =
    let p = c.args.program.now in
    let count : length c.tasks-count.result.now ≡ length p.tasks = ap (λ (ts : List Descriptor). length ts) c.tasks-count.ensures.value in
    let end : c.loop-task.task ≡ length p.tasks = omega arith in
    let none : first_fault 0 (entries_of c.loop-task.lists.items) ≡ None =
    no_fault (entries_of c.loop-task.lists.items) 0 (λ t less. below_rises p c.loop-task.task t (entries_of c.loop-task.lists.items) c.loop-task.invariant end less) in
    absurd (cc (none, c.in-Err.ensures.0))

pub returns-clause-least : goal.returns-clause-least
returns-clause-least c =
    let p = c.args.program.now in
    let count : length c.tasks-count.result.now ≡ length p.tasks = ap (λ (ts : List Descriptor). length ts) c.tasks-count.ensures.value in
    let end : c.loop-task.task ≡ length p.tasks = omega arith in
    below_whole p c.loop-task.task (entries_of c.loop-task.lists.items) c.in-Ok.cert c.in-Ok.ensures.1 end c.loop-task.invariant
