-- One task more.
use Rattle.std.proofs.Common.{◌≡◌, ℕ, ◌+◌, ◌<◌, ◌++◌, Option, List, length, take, drop, sym, ◌∙◌, ap, subst, arith, rules}
use Rattle.std.proofs.lemmas.List.{take_at}
use Rattle.task_descriptor.specs.declared.descriptor.Marked.{Marked}
use Rattle.task_descriptor.specs.declared.descriptor.Descriptor.{Descriptor}
use Rattle.annotator.specs.Marking.{indices_of}
use Rattle.annotator.proofs.MarkLemmas.{entries_inside}
use Rattle.finding_paths.specs.Steps.{AreNoted, AreReaching}
use Rattle.finding_paths.proofs.NotedTasks.{reaching_none, reaching_more}
use Rattle.finding_paths.proofs.reaching.reaching_tasks.Goals as goal

pub loop-task-init : goal.loop-task-init
loop-task-init c =
    reaching_none c.args.program.now c.in_ok-table.table.items (length c.code.result.now)
    (c.in_ok-table.ensures.items_if_clones_equal (λ y h. search rules)) (ap (λ (xs : List Marked). length xs) c.code.ensures.value)

pub note_all-requires : goal.note_all-requires
note_all-requires c =
    entries_inside c.args.program.now c.args.cert.now c.loop-task.task (length c.deref_mut.result.now) c.list.result.now c.requires
    (subst (λ (ts : List Descriptor). c.loop-task.task < length ts) c.tasks-task-end.ensures.value c.loop-task-test.true) c.list.ensures.entries
    (ap (λ (xs : List (Option ℕ)). length xs) c.deref_mut.ensures.value ∙ c.loop-task.invariant.sized)

pub loop-task-preserved : goal.loop-task-preserved
loop-task-preserved c =
    let new = c.note_all.new.table in
    let set : AreNoted (indices_of c.list.result.now) c.loop-task.task c.loop-task.table.items new =
    subst (λ (ms : List (Option ℕ)). AreNoted (indices_of c.list.result.now) c.loop-task.task ms new) c.deref_mut.ensures.value c.note_all.ensures in
    let back : take c.loop-task.table.len (new ++ drop (length new) c.loop-task.table.items) ≡ new =
    take_at new (drop (length new) c.loop-task.table.items) c.loop-task.table.len (set.sized ∙ sym c.loop-task.table.ok.0) in
    subst (λ (ms : List (Option ℕ)). AreReaching c.args.program.now (c.loop-task.task + 1) ms) (sym back)
    (reaching_more c.args.program.now c.args.cert.now c.loop-task.task c.list.result.now c.loop-task.table.items new c.requires
    (subst (λ (ts : List Descriptor). c.loop-task.task < length ts) c.tasks-task-end.ensures.value c.loop-task-test.true) c.list.ensures.entries set c.loop-task.invariant)

pub returns : goal.returns
returns c =
    let count : length c.tasks-task-end.result.now ≡ length c.args.program.now.tasks = ap (λ (ts : List Descriptor). length ts) c.tasks-task-end.ensures.value in
    let end : c.loop-task.task ≡ length c.args.program.now.tasks = omega arith in
    subst (λ (n : ℕ). AreReaching c.args.program.now n c.loop-task.table.items) end c.loop-task.invariant
