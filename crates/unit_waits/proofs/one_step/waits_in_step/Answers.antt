-- There are no more waits than units after the head.
use Rattle.std.proofs.Common.{◌≡◌, ◌≤◌, length, drop, ap, arith}
use Rattle.std.proofs.lemmas.List.{length-drop}
use Rattle.sequencer.specs.Machines.{state}
use Rattle.unit_waits.specs.Waits.{waits_in}
use Rattle.unit_waits.specs.declared.waiting.Waiting.{Waiting}
use Rattle.std.proofs.Common.{List}
use Rattle.unit_waits.proofs.InOrder.{few_wait, waits_all}
use Rattle.unit_waits.proofs.one_step.waits_in_step.Goals as goal

pub returns-clause-few : goal.returns-clause-few
returns-clause-few c =
    let s = state c.args.machine.now in
    let p = c.args.accepted.now.program in
    let l = c.loop-position in
    let whole = waits_in p c.args.units c.args.step s c.args.events.now in
    let active = c.active-position-end.ensures.active in
    let within = c.active-position-end.ensures.within in
    let behind : length s.queue ≤ l.position = omega arith in
    let exact : l.waits.items ≡ whole = waits_all p c.args.units c.args.step s c.args.events.now l.position s.queue l.waits.items whole behind l.invariant in
    let long = ap (λ (ws : List Waiting). length ws) exact in
    let few = few_wait p c.args.units c.args.step s c.args.events.now 1 (drop 1 s.queue) in
    let rest = length-drop 1 s.queue in
    omega (arith, long, few, rest, active, within)
