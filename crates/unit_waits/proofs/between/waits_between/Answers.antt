-- One step more, or none is left.
use Rattle.std.proofs.Common.{ℕ, Bool, List, [], ◌+◌, ◌++◌, length, drop, filter, ap, ◌∙◌, arith}
use Rattle.std.proofs.lemmas.List.{length-drop}
use Rattle.machine_model.specs.declared.event.Event.{Event}
use Rattle.machine_model.specs.Machine.{State}
use Rattle.sequencer.specs.Machines.{state}
use Rattle.unit_waits.specs.declared.waiting.Waiting.{Waiting}
use Rattle.unit_waits.specs.Waits.{is_between, waits_between, waits_from}
use Rattle.unit_waits.proofs.Stepping.{begins, passed_all, passed_done, passed_more, step_allowed, step_on}
use Rattle.unit_waits.proofs.between.waits_between.Goals as goal

abbrev test : (first last : ℕ) → Waiting → Bool
test first last w = is_between first last w.step

pub loop-start-init : goal.loop-start-init
loop-start-init c =
    let machine = c.in_ok-machine.ensures in
    let m = c.in_ok-machine.machine in
    let p = c.args.accepted.now.program in
    let events = c.args.history.now in
    record {
      on = begins c.args.accepted.now c.args.units events 1 m machine.accepted machine.units machine.history machine.opening (omega arith) c.requires.replay;
      all =
          ap (λ (ws : List Waiting). ws ++ filter (test c.args.first c.args.last) (waits_from p c.args.units 1 (state m) [] events)) c.new-waits.ensures.items
          ∙ ap (λ (s : State). filter (test c.args.first c.args.last) (waits_from p c.args.units 1 s [] events)) machine.opening;
    }

pub waits_if_between-requires-clause-over : goal.waits_if_between-requires-clause-over
waits_if_between-requires-clause-over c = c.loop-start.invariant.on.over

pub waits_if_between-requires-clause-units : goal.waits_if_between-requires-clause-units
waits_if_between-requires-clause-units c = (c.requires.some, c.loop-start.invariant.on.ring)

pub apply_all-requires-clause-replay : goal.apply_all-requires-clause-replay
apply_all-requires-clause-replay c =
    let l = c.loop-start in
    step_allowed c.next_is_after.ensures c.args.accepted.now c.args.units c.active.result c.args.history.now c.behind-left.result.now c.in-Some.events.now l.start l.number l.machine
    l.invariant.on c.behind-left.ensures c.in-Some.ensures.step

pub apply_all-requires-clause-room : goal.apply_all-requires-clause-room
apply_all-requires-clause-room c =
    let l = c.loop-start in
    let long = ap (λ (es : List Event). length es) c.behind-left.ensures in
    omega (arith, l.invariant.on.count, l.invariant.on.within, long, length-drop l.start c.args.history.now, c.in-Some.ensures.within, c.requires.room)

pub loop-start-preserved : goal.loop-start-preserved
loop-start-preserved c =
    let l = c.loop-start in
    let a = c.args.accepted.now in
    let all = c.args.history.now in
    let left = c.behind-left.result.now in
    let events = c.in-Some.events.now in
    let step = c.in-Some.ensures in
    let new = c.apply_all.new.machine in
    let in_step = c.in_ok-in_step.in_step.items in
    let applied = c.in_ok-apply_all.ensures in
    let longer = c.in_ok-extend_from_slice.ensures.items ∙ ap (λ (ws : List Waiting). l.waits.items ++ ws) c.as_slice.ensures.value in
    record {
      on =
          step_on a c.args.units c.active.result all left events l.start l.number l.machine new
          l.invariant.on c.behind-left.ensures step.step step.some step.within applied.state applied.count c.apply_all.ensures.kept;
      all =
          ap (λ (ws : List Waiting). ws ++ filter (test c.args.first c.args.last) (waits_from a.program c.args.units (l.number + 1) (state new) [] (drop (l.start + length events) all))) longer
          ∙ passed_more (test c.args.first c.args.last) a c.args.units c.active.result all left events l.start l.number l.machine new l.waits.items in_step
          (waits_between a.program c.args.units c.args.first c.args.last all)
          l.invariant.on.over c.behind-left.ensures c.active.ensures.active step.step c.in_ok-in_step.ensures applied.state l.invariant.all;
    }

pub returns-in_default : goal.returns-in_default
returns-in_default c =
    let l = c.loop-start in
    let a = c.args.accepted.now in
    passed_done (test c.args.first c.args.last) a c.args.units c.active.result c.args.history.now c.behind-left.result.now l.start l.number l.machine l.waits.items
    (waits_between a.program c.args.units c.args.first c.args.last c.args.history.now)
    c.behind-left.ensures c.active.ensures.active c.in_default.ensures.step l.invariant.all

pub returns : goal.returns
returns c =
    let l = c.loop-start in
    let a = c.args.accepted.now in
    passed_all (test c.args.first c.args.last) a c.args.units c.args.history.now l.start l.number l.machine l.waits.items
    (waits_between a.program c.args.units c.args.first c.args.last c.args.history.now)
    c.loop-start-test.false l.invariant.all
