-- There are fewer waits than a count could hold.
use Rattle.std.proofs.Common.{take, ap, arith}
use Rattle.std.proofs.lemmas.List.{length-take-le}
use Rattle.unit_waits.specs.Counts.{all_waits}
use Rattle.unit_waits.proofs.Counting.{all_more}
use Rattle.unit_waits.proofs.counts.add_all.Goals as goal

pub add-requires : goal.add-requires
add-requires c =
    let l = c.loop-waiting in
    let done = take l.waiting-index c.args.waits.now in
    let short = length-take-le l.waiting-index c.args.waits.now (omega (arith, c.loop-waiting-test.true)) in
    let all = all_more c.args.counts.now.items done in
    let now = ap all_waits l.invariant in
    omega (arith, short, all, now, c.requires, c.loop-waiting-test.true)
