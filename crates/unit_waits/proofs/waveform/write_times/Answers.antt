-- One step more, or none is left.
use Rattle.std.proofs.Common.{List, length, ap, arith}
use Rattle.std.proofs.lemmas.List.{length-drop}
use Rattle.machine_model.specs.declared.event.Event.{Event}
use Rattle.unit_waits.proofs.Stepping.{begins, ends_at, ends_with_rest, rest_allowed, step_allowed, step_on}
use Rattle.unit_waits.proofs.waveform.write_times.Goals as goal

pub loop-start-init : goal.loop-start-init
loop-start-init c =
    let machine = c.in_ok-machine.ensures in
    begins c.args.accepted.now c.args.units c.args.history.now 0 c.in_ok-machine.machine
    machine.accepted machine.units machine.history machine.opening (omega arith) c.requires.replay

pub apply_all-requires-clause-replay : goal.apply_all-requires-clause-replay
apply_all-requires-clause-replay c =
    let l = c.loop-start in
    rest_allowed c.next_is_after.ensures c.args.accepted.now c.args.units c.args.history.now c.behind-left.result.now l.start l.time l.machine l.invariant c.behind-left.ensures

pub apply_all-requires-clause-room : goal.apply_all-requires-clause-room
apply_all-requires-clause-room c =
    let l = c.loop-start in
    let count = l.invariant.count in
    let within = l.invariant.within in
    let long = ap (λ (es : List Event). length es) c.behind-left.ensures in
    omega (arith, count, within, long, length-drop l.start c.args.history.now, c.requires.room)

pub apply_all-requires-in-loop-start-clause-replay : goal.apply_all-requires-in-loop-start-clause-replay
apply_all-requires-in-loop-start-clause-replay c =
    let l = c.loop-start in
    step_allowed c.next_is_after.ensures c.args.accepted.now c.args.units c.active.result c.args.history.now c.behind-left.result.now c.in-Some.events.now l.start l.time l.machine
    l.invariant c.behind-left.ensures c.in-Some.ensures.step

pub apply_all-requires-in-loop-start-clause-room : goal.apply_all-requires-in-loop-start-clause-room
apply_all-requires-in-loop-start-clause-room c =
    let l = c.loop-start in
    let count = l.invariant.count in
    let within = l.invariant.within in
    let long = ap (λ (es : List Event). length es) c.behind-left.ensures in
    omega (arith, count, within, long, length-drop l.start c.args.history.now, c.in-Some.ensures.within, c.requires.room)

pub returns-in_default : goal.returns-in_default
returns-in_default c =
    let l = c.loop-start in
    let applied = c.in_ok-apply_all.ensures in
    ends_with_rest c.args.accepted.now c.args.units c.args.history.now c.behind-left.result.now l.start l.time l.machine c.apply_all.new.machine
    l.invariant c.behind-left.ensures applied.state applied.count c.apply_all.ensures.kept

pub returns : goal.returns
returns c =
    let l = c.loop-start in
    ends_at c.args.accepted.now c.args.units c.args.history.now l.start l.time l.machine l.invariant c.loop-start-test.false

pub loop-start-preserved : goal.loop-start-preserved
loop-start-preserved c =
    let l = c.loop-start in
    let step = c.in-Some.ensures in
    let applied = c.in_ok-apply_all-2.ensures in
    step_on c.args.accepted.now c.args.units c.active.result c.args.history.now c.behind-left.result.now c.in-Some.events.now l.start l.time l.machine c.apply_all-in-loop-start.new.machine
    l.invariant c.behind-left.ensures step.step step.some step.within applied.state applied.count c.apply_all-in-loop-start.ensures.kept
