use Rattle.annotator.proofs.Imports.{◌≡◌, ℕ, ◌+◌, ◌<◌, List, length, sym, ◌∙◌, ap, subst, arith, Marked, Descriptor, AreCreates}
use Rattle.annotator.proofs.MarkLemmas.{creates_none, creates_more, entries_inside}
use Rattle.annotator.proofs.marks.create_masks.Goals as goal

pub loop-task-init : goal.loop-task-init
loop-task-init c = creates_none c.args.program.now c.in_ok-sets.sets.items c.in_ok-sets.ensures.items

pub produced_at-requires : goal.produced_at-requires
produced_at-requires c =
    entries_inside c.args.program.now c.args.cert.now c.loop-task.task (length c.code.result.now) c.list.result.now c.requires
    (subst (λ (ts : List Descriptor). c.loop-task.task < length ts) c.tasks-count.ensures.value c.loop-task-test.true) c.list.ensures.entries
    (ap (λ (xs : List Marked). length xs) c.code.ensures.value)

pub loop-task-preserved : goal.loop-task-preserved
loop-task-preserved c =
    creates_more c.args.program.now c.args.cert.now c.loop-task.task c.list.result.now c.code.result.now c.loop-task.sets.items c.push.new.self.items c.produced_at.result
    c.requires c.list.ensures.entries c.code.ensures.value c.in_ok-push.ensures.items c.produced_at.ensures c.loop-task.invariant

pub returns : goal.returns
returns c =
    let count : length c.tasks-count.result.now ≡ length c.args.program.now.tasks = ap (λ (ts : List Descriptor). length ts) c.tasks-count.ensures.value in
    let end : c.loop-task.task ≡ length c.args.program.now.tasks = omega arith in
    subst (λ (n : ℕ). AreCreates c.args.program.now n c.loop-task.sets.items) end c.loop-task.invariant
