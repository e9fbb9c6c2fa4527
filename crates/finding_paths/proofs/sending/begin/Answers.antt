-- One entry more.
use Rattle.std.proofs.Common.{◌≡◌, ◌<◌, ℕ, List, length, slice_get, Some, sym, subst, refl}
use Rattle.std.proofs.lemmas.Option.{slice_get_read}
use Rattle.task_descriptor.specs.declared.descriptor.Descriptor.{Descriptor}
use Rattle.task_graph.specs.SearchSteps.{mark_of, work_of}
use Rattle.task_graph.proofs.WellFormed.{entry_inside}
use Rattle.finding_paths.proofs.Unsent.{begun_none, begun_more}
use Rattle.finding_paths.proofs.sending.begin.Goals as goal

pub loop-task-init : goal.loop-task-init
loop-task-init c = begun_none c.args.program.now c.args.marks.now.items c.args.work.now.items c.requires.unmarked c.requires.idle

pub loop-task-preserved : goal.loop-task-preserved
loop-task-preserved c =
    let p = c.args.program.now in
    let tasks = c.tasks-task-items.result.now in
    let n = c.loop-task.task-index in
    let d = c.task-item.result in
    let old = c.loop-task.marks.items in
    let new = c.mark.new.marks.items in
    let waits = c.loop-task.work.items in
    let waits_then = c.mark.new.work.items in
    let there : slice_get p.tasks n ≡ Some d =
    subst (λ (ts : List Descriptor). slice_get ts n ≡ Some d) c.tasks-task-items.ensures.value (slice_get_read tasks (length tasks) n d refl c.loop-task-test.true c.task-item.is) in
    let inside : d.entry < length p.code = entry_inside p n d c.tasks-task-items.ensures.well_formed there in
    let within : d.entry < length old = subst (λ (k : ℕ). d.entry < k) (sym c.loop-task.invariant.sized) inside in
    begun_more p n d old new waits waits_then there within
    (subst (λ (e : ℕ). new ≡ mark_of (Some e) old) c.get.ensures.value c.in_ok-mark.ensures.marks)
    (subst (λ (e : ℕ). waits_then ≡ work_of (Some e) old waits) c.get.ensures.value c.in_ok-mark.ensures.work) c.loop-task.invariant
