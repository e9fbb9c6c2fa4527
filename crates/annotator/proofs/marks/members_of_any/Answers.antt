use Rattle.annotator.proofs.Imports.{◌≡◌, ℕ, ◌+◌, ◌<◌, ◌++◌, false, Bool, List, length, take, drop, replicate, sym, ◌∙◌, ap, subst, arith, rules, take_at, Marked, Descriptor, indices_of, AreMarked, AreMembers}
use Rattle.annotator.proofs.MarkLemmas.{members_none, members_more, entries_inside}
use Rattle.annotator.proofs.marks.members_of_any.Goals as goal

pub loop-task-init : goal.loop-task-init
loop-task-init c =
    members_none c.args.program.now c.in_ok-marks.marks.items (length c.code.result.now)
    (c.in_ok-marks.ensures.items_if_clones_equal (λ y h. search rules)) (ap (λ (xs : List Marked). length xs) c.code.ensures.value)

pub mark_all-requires : goal.mark_all-requires
mark_all-requires c =
    entries_inside c.args.program.now c.args.cert.now c.loop-task.task (length c.deref_mut.result.now) c.list.result.now c.requires
    (subst (λ (ts : List Descriptor). c.loop-task.task < length ts) c.tasks-task-end.ensures.value c.loop-task-test.true) c.list.ensures.entries
    (ap (λ (xs : List Bool). length xs) c.deref_mut.ensures.value ∙ c.loop-task.invariant.sized)

pub loop-task-preserved : goal.loop-task-preserved
loop-task-preserved c =
    let new = c.mark_all.new.marks in
    let set : AreMarked (indices_of c.list.result.now) c.loop-task.marks.items new =
    subst (λ (ms : List Bool). AreMarked (indices_of c.list.result.now) ms new) c.deref_mut.ensures.value c.mark_all.ensures in
    let back : take c.loop-task.marks.len (new ++ drop (length new) c.loop-task.marks.items) ≡ new =
    take_at new (drop (length new) c.loop-task.marks.items) c.loop-task.marks.len (set.sized ∙ sym c.loop-task.marks.ok.0) in
    subst (λ (ms : List Bool). AreMembers c.args.program.now (c.loop-task.task + 1) ms) (sym back)
    (members_more c.args.program.now c.args.cert.now c.loop-task.task c.list.result.now c.loop-task.marks.items new c.requires
    (subst (λ (ts : List Descriptor). c.loop-task.task < length ts) c.tasks-task-end.ensures.value c.loop-task-test.true) c.list.ensures.entries set c.loop-task.invariant)

pub returns : goal.returns
returns c =
    let count : length c.tasks-task-end.result.now ≡ length c.args.program.now.tasks = ap (λ (ts : List Descriptor). length ts) c.tasks-task-end.ensures.value in
    let end : c.loop-task.task ≡ length c.args.program.now.tasks = omega arith in
    subst (λ (n : ℕ). AreMembers c.args.program.now n c.loop-task.marks.items) end c.loop-task.invariant
