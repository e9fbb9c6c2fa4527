-- The tally of the life's task, if there is one.
use Rattle.std.proofs.Common.{◌≡◌, ◌+◌, ◌<◌, ◌≤◌, ◌∙◌, length, ap, arith}
use Rattle.std.specs.Prelude.{slice_set}
use Rattle.task_lives.specs.declared.tally.Tally.{Tally}
use Rattle.task_lives.proofs.OneMore.{room_at, none_behind, counted_at}
use Rattle.task_lives.proofs.tally.count.Goals as goal

pub with-requires : goal.with-requires
with-requires c =
    let ts = c.args.tallies.now in
    let life = c.args.life.now in
    let within : life.task < length ts.items = omega (arith, ts.ok.0, c.len.ensures, c.if-task-len.true) in
    room_at life.task life ts.items c.index-tally.result.now within c.index-tally.ensures c.requires

pub returns-then-task-len : goal.returns-then-task-len
returns-then-task-len c =
    let ts = c.args.tallies.now in
    let life = c.args.life.now in
    let at : life.task ≡ 0 + life.task = omega arith in
    ap (λ (t : Tally). slice_set ts.items life.task t) c.with.ensures
    ∙ counted_at 0 life.task life ts.items c.index-tally.result.now at c.index-tally.ensures

pub returns-else-task-len : goal.returns-else-task-len
returns-else-task-len c =
    let ts = c.args.tallies.now in
    let life = c.args.life.now in
    let behind : 0 + length ts.items ≤ life.task = omega (arith, ts.ok.0, c.len.ensures, c.if-task-len.false) in
    none_behind 0 life ts.items behind
