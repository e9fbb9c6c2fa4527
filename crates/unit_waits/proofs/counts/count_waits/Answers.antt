-- One step more, and at the end the counts of all who waited.
use Rattle.std.proofs.Common.{◌+◌, List, [], ◌++◌, length, sym, ap, ◌∙◌, arith, length-append}
use Rattle.std.specs.List.{fold}
use Rattle.std.proofs.lemmas.List.{length-drop}
use Rattle.unit_waits.specs.declared.waiting.Waiting.{Waiting}
use Rattle.unit_waits.specs.declared.count.Count.{Count}
use Rattle.unit_waits.specs.Counts.{all_waits, counted, counts_of}
use Rattle.machine_model.specs.Machine.{State}
use Rattle.machine_model.specs.declared.event.Event.{Event}
use Rattle.unit_waits.specs.Waits.{waits, waits_from}
use Rattle.unit_waits.proofs.Counting.{all_counted, counts_on}
use Rattle.unit_waits.proofs.Stepping.{begins, step_allowed, step_on, waits_all, waits_done, waits_more}
use Rattle.unit_waits.proofs.counts.count_waits.Goals as goal

pub loop-start-init : goal.loop-start-init
loop-start-init c =
    let machine = c.in_ok-machine.ensures in
    let events = c.args.history.now in
    record {
      waited = [];
      counts = c.new-counts.ensures.items;
      few = omega arith;
      on = begins c.args.accepted.now c.args.units events 1 c.in_ok-machine.machine machine.accepted machine.units machine.history machine.opening (omega arith) c.requires.replay;
      all = ap (λ (s : State). waits_from c.args.accepted.now.program c.args.units 1 s [] events) machine.opening;
    }

pub waits_in_step-requires-clause-over : goal.waits_in_step-requires-clause-over
waits_in_step-requires-clause-over c = c.loop-start.invariant.on.over

pub waits_in_step-requires-clause-units : goal.waits_in_step-requires-clause-units
waits_in_step-requires-clause-units c = (c.requires.some, c.loop-start.invariant.on.ring)

pub apply_all-requires-clause-replay : goal.apply_all-requires-clause-replay
apply_all-requires-clause-replay c =
    let l = c.loop-start in
    step_allowed c.next_is_after.ensures c.args.accepted.now c.args.units c.active.result c.args.history.now c.behind-left.result.now c.in-Some.events.now l.start l.number l.machine
    l.invariant.on c.behind-left.ensures c.in-Some.ensures.step

pub apply_all-requires-clause-room : goal.apply_all-requires-clause-room
apply_all-requires-clause-room c =
    let l = c.loop-start in
    let count = l.invariant.on.count in
    let within = l.invariant.on.within in
    let long = ap (λ (es : List Event). length es) c.behind-left.ensures in
    omega (arith, count, within, long, length-drop l.start c.args.history.now, c.in-Some.ensures.within, c.requires.room)

pub add_all-requires : goal.add_all-requires
add_all-requires c =
    let l = c.loop-start in
    let few = c.in_ok-in_step.ensures.few in
    let within = l.invariant.on.within in
    let here = ap (λ (ws : List Waiting). length ws) c.as_slice.ensures.value in
    let all = ap all_waits l.invariant.counts in
    let sum = all_counted l.invariant.waited in
    omega (arith, few, within, here, all, sum, l.invariant.few, c.requires.room)

pub loop-start-preserved : goal.loop-start-preserved
loop-start-preserved c =
    let l = c.loop-start in
    let a = c.args.accepted.now in
    let all = c.args.history.now in
    let left = c.behind-left.result.now in
    let events = c.in-Some.events.now in
    let step = c.in-Some.ensures in
    let new = c.apply_all.new.machine in
    let in_step = c.in_ok-in_step.in_step.items in
    let applied = c.in_ok-apply_all.ensures in
    let waited = l.invariant.waited in
    let few = c.in_ok-in_step.ensures.few in
    let joined = length-append waited in_step in
    record {
      waited = waited ++ in_step;
      counts =
          c.in_ok-add_all.ensures
          ∙ ap (λ (cs : List Count). fold counted cs c.as_slice.result.now) l.invariant.counts
          ∙ ap (λ (ws : List Waiting). fold counted (counts_of waited) ws) c.as_slice.ensures.value
          ∙ sym (counts_on waited in_step);
      few = omega (arith, few, joined, l.invariant.few, step.some);
      on =
          step_on a c.args.units c.active.result all left events l.start l.number l.machine new
          l.invariant.on c.behind-left.ensures step.step step.some step.within applied.state applied.count c.apply_all.ensures.kept;
      all =
          waits_more a c.args.units c.active.result all left events l.start l.number l.machine new waited in_step (waits a.program c.args.units all)
          l.invariant.on.over c.behind-left.ensures c.active.ensures.active step.step c.in_ok-in_step.ensures.exact applied.state l.invariant.all;
    }

pub returns-in_default-clause-few : goal.returns-in_default-clause-few
returns-in_default-clause-few c =
    let l = c.loop-start in
    let all = ap all_waits l.invariant.counts in
    let sum = all_counted l.invariant.waited in
    let within = l.invariant.on.within in
    omega (arith, all, sum, within, l.invariant.few, c.requires.room)

pub returns-in_default-clause-exact : goal.returns-in_default-clause-exact
returns-in_default-clause-exact c =
    let l = c.loop-start in
    let a = c.args.accepted.now in
    l.invariant.counts
    ∙ ap counts_of (waits_done a c.args.units c.active.result c.args.history.now c.behind-left.result.now l.start l.number l.machine l.invariant.waited (waits a.program c.args.units c.args.history.now)
    c.behind-left.ensures c.active.ensures.active c.in_default.ensures.step l.invariant.all)

pub returns-clause-few : goal.returns-clause-few
returns-clause-few c =
    let l = c.loop-start in
    let all = ap all_waits l.invariant.counts in
    let sum = all_counted l.invariant.waited in
    let within = l.invariant.on.within in
    omega (arith, all, sum, within, l.invariant.few, c.requires.room)

pub returns-clause-exact : goal.returns-clause-exact
returns-clause-exact c =
    let l = c.loop-start in
    let a = c.args.accepted.now in
    l.invariant.counts
    ∙ ap counts_of (waits_all a c.args.units c.args.history.now l.start l.number l.machine l.invariant.waited (waits a.program c.args.units c.args.history.now)
    c.loop-start-test.false l.invariant.all)
