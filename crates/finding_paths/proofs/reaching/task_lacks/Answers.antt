-- The task has a mask there, and its create mask is the one that is read.
use Rattle.std.proofs.Common.{◌≡◌, ◌<◌, Some, List, length, get_or, slice_get, sym, subst}
use Rattle.std.proofs.lemmas.Option.{slice_get-get_or}
use Rattle.task_descriptor.specs.declared.descriptor.Descriptor.{Descriptor}
use Rattle.mask_certificate.specs.Lists.{list_of, mask_at}
use Rattle.finding_paths.proofs.Reached.{lacks_exact, some_mask}
use Rattle.finding_paths.proofs.reaching.task_lacks.Goals as goal

pub returns : goal.returns
returns c =
    let p = c.args.program.now in
    let tasks = c.tasks.result.now in
    let d = get_or tasks c.args.task c.index-tasks-task.result in
    let inside : c.args.task < length tasks = subst (λ (ts : List Descriptor). c.args.task < length ts) (sym c.tasks.ensures.value) c.requires.there in
    let there : slice_get p.tasks c.args.task ≡ Some d =
    subst (λ (ts : List Descriptor). slice_get ts c.args.task ≡ Some d) c.tasks.ensures.value (slice_get-get_or tasks c.args.task c.index-tasks-task.result inside) in
    lacks_exact p c.args.cert.now c.args.task c.args.index c.args.written d c.is_subset.result c.requires.least there
    (some_mask c.mask.result (mask_at (list_of c.args.cert.now c.args.task) c.args.index) c.is_none.result c.mask.ensures c.is_none.ensures c.if-is_none.false)
    c.is_subset.ensures.members
