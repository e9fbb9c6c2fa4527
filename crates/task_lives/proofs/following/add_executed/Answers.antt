-- The one at the position, if there is one.
use Rattle.std.proofs.Common.{◌≡◌, ◌+◌, ◌<◌, ◌≤◌, ◌∙◌, length, ap, arith}
use Rattle.std.specs.Prelude.{slice_set}
use Rattle.task_lives.specs.declared.following.AtWork.{AtWork}
use Rattle.task_lives.proofs.InOrder.{room_at, none_behind, more_executed_at}
use Rattle.task_lives.proofs.following.add_executed.Goals as goal

pub with-requires : goal.with-requires
with-requires c =
    let queue = c.args.queue.now in
    let within : c.args.position < length queue.items = omega (arith, queue.ok.0, c.len.ensures, c.if-position-len.true) in
    room_at c.args.count queue.items c.args.position c.index-at_work.result.now within c.index-at_work.ensures c.requires

pub returns-then-position-len : goal.returns-then-position-len
returns-then-position-len c =
    let items = c.args.queue.now.items in
    let at : c.args.position ≡ 0 + c.args.position = omega arith in
    ap (λ (w : AtWork). slice_set items c.args.position w) c.with.ensures
    ∙ more_executed_at 0 c.args.position c.args.position c.args.count items c.index-at_work.result.now at c.index-at_work.ensures

pub returns-else-position-len : goal.returns-else-position-len
returns-else-position-len c =
    let queue = c.args.queue.now in
    let behind : 0 + length queue.items ≤ c.args.position = omega (arith, queue.ok.0, c.len.ensures, c.if-position-len.false) in
    none_behind 0 c.args.position c.args.count queue.items behind
