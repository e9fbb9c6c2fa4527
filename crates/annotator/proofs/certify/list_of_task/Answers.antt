use Rattle.annotator.proofs.Imports.{◌≡◌, ◌+◌, ◌<◌, ℕ, List, length, get_or, take, subst, sym, ◌∙◌, ap, arith, take_all, take_more, get_or_default, limits}
use Rattle.annotator.proofs.LeastMasks.{entries_at, reached_inside, entries_more, least_list, some_task}
use Rattle.annotator.proofs.certify.list_of_task.Goals as goal

pub bounds-masks-i : goal.bounds-masks-i
bounds-masks-i c =
    let p = c.args.program.now in
    let task = some_task p.tasks c.args.task c.requires.there in
    let inside = reached_inside p task.0 c.in_ok-reached.reached.items c.deref-i-items.result.now c.loop-i.i-index (c.in_ok-reached.ensures.exact task.0 task.1) c.deref-i-items.ensures.value c.loop-i-test.true in
    omega (arith, c.requires.masks.sized)

pub loop-i-preserved : goal.loop-i-preserved
loop-i-preserved c =
    let p = c.args.program.now in
    let indices = c.deref-i-items.result.now in
    let k = c.loop-i.i-index in
    let i = get_or indices k 0 in
    let task = some_task p.tasks c.args.task c.requires.there in
    let inside = reached_inside p task.0 c.in_ok-reached.reached.items indices k (c.in_ok-reached.ensures.exact task.0 task.1) c.deref-i-items.ensures.value c.loop-i-test.true in
    let within : i < length c.args.masks.now = omega (arith, c.requires.masks.sized) in
    let mask : c.index-masks-i.result ≡ get_or c.args.masks.now i 0 = c.index-masks-i.is ∙ get_or_default c.args.masks.now i c.index-masks-i.result 0 within in
    entries_more c.args.masks.now (take k indices) (take (k + 1) indices) c.loop-i.list.items c.push.new.self.items i c.index-masks-i.result
    (take_more indices k 0 c.loop-i-test.true) c.in_ok-push.ensures.items mask c.loop-i.invariant

pub returns : goal.returns
returns c d there =
    let p = c.args.program.now in
    let all : take c.loop-i.i-index c.deref-i-items.result.now ≡ c.in_ok-reached.reached.items =
    take_all c.loop-i.i-index c.deref-i-items.result.now (omega arith) ∙ c.deref-i-items.ensures.value in
    least_list p d c.args.masks.now c.in_ok-reached.reached.items c.loop-i.list.items
    (c.loop-i.invariant ∙ ap (λ (xs : List ℕ). entries_at c.args.masks.now xs) all) c.requires.masks
    c.in_ok-reached.ensures.rising (c.in_ok-reached.ensures.exact d there) (limits p c.requires.well_formed).code
