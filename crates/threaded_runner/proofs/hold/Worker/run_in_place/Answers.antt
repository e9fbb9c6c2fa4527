use Rattle.threaded_runner.proofs.Imports.{◌≡◌, ℕ, ◌+◌, rules, refl, sym, ◌∙◌, subst, arith, Result, Event, Refused, MachineView, Share, DeskView, TakesTurns, GoesInPlace, after_in_place, pace_of, WorkerView, with_pace}
use Rattle.threaded_runner.proofs.Going.{some_turns}
use Rattle.threaded_runner.proofs.HoldTurning.{one_more_event, at_last, at_once}
use Rattle.threaded_runner.proofs.hold.Worker.run_in_place.Goals.{else-loop-test, then-loop-test+then-left-eq0, then-loop-test+else-left-eq0+then-not-apply_at_head}
use Rattle.threaded_runner.proofs.hold.Worker.run_in_place.Goals as goal

-- the turns of a worker of the same units
by_same : (s t : Share) (a b : DeskView) → t ≡ s → TakesTurns t 0 a b → TakesTurns s 0 a b
by_same s t a b same h = subst (λ (x : Share). TakesTurns x 0 a b) same h

-- the same, of what is at the end
by_ends : (was_asked : MachineView → Event → Result (Unit {0}) Refused → Type 0) (w v v' : WorkerView) (n n' : ℕ) (a b b' : DeskView)
    → n' ≡ n → v' ≡ v → b' ≡ b → GoesInPlace was_asked w n a v b → GoesInPlace was_asked w n' a v' b'
by_ends was_asked w v v' n n' a b b' steps worker desk h =
    subst (λ (k : ℕ). GoesInPlace was_asked w k a v' b') (sym steps)
    (subst (λ (x : WorkerView). GoesInPlace was_asked w n a x b') (sym worker) (subst (λ (d : DeskView). GoesInPlace was_asked w n a v d) (sym desk) h))

pub loop-preserved : goal.loop-preserved
loop-preserved g c =
    let s = c.args.self.now.share in
    let before = c.loop.invariant.stays in
    let after = c.apply_at_head.ensures.stays in
    let inside = by_same s c.loop.self.share c.loop.desk c.run_inside-run.new.desk before.share c.run_inside-run.ensures.turns in
    let event = by_same s c.loop.self.share c.run_inside-run.new.desk c.apply_at_head.new.desk before.share c.apply_at_head.ensures.turns in
    record {
      goes =
          one_more_event g.J.Deeds.was_asked c.loop.counter c.loop.steps c.run_inside-run.result c.args.self.now c.loop.self c.apply_at_head.new.self c.args.desk.now c.loop.desk
          c.run_inside-run.new.desk c.apply_at_head.new.desk c.loop.invariant.goes c.run_inside-run.ensures.runs (c.if-not-apply_at_head.ensures.applied refl);
      turns =
          some_turns s c.args.desk.now c.run_inside-run.new.desk c.apply_at_head.new.desk
          (some_turns s c.args.desk.now c.loop.desk c.run_inside-run.new.desk c.loop.invariant.turns inside) event;
      stays = record { share = after.share ∙ before.share; budget = after.budget ∙ before.budget };
      room = omega (arith, c.loop.invariant.room, c.run_inside-run.ensures.history, c.run_inside-run.ensures.few, c.apply_at_head.ensures.few, c.if-left-eq0.false);
      ran = omega (arith, c.loop.invariant.ran, c.run_inside-run.ensures.few, c.if-left-eq0.false);
    }

pub returns-clause-turns : goal.returns-clause-turns
returns-clause-turns g c =
    let s = c.args.self.now.share in
    let a = c.args.desk.now in
    let same = c.loop.invariant.stays.share in
    let ends = λ (d : DeskView) (is : c.loop-test.desk ≡ d) (h : TakesTurns s 0 a d). subst (λ (x : DeskView). TakesTurns s 0 a x) (sym is) h in
    elim c.loop-test.branch [
      | else-loop-test w ↦ ends c.loop.desk w.desk-is c.loop.invariant.turns
      | then-loop-test+then-left-eq0 w ↦
          ends w.run_inside-run.new.desk w.desk-is
          (some_turns s a c.loop.desk w.run_inside-run.new.desk c.loop.invariant.turns (by_same s c.loop.self.share c.loop.desk w.run_inside-run.new.desk same w.run_inside-run.ensures.turns))
      | then-loop-test+else-left-eq0+then-not-apply_at_head w ↦
          ends w.apply_at_head.new.desk w.desk-is
          (some_turns s a w.run_inside-run.new.desk w.apply_at_head.new.desk
          (some_turns s a c.loop.desk w.run_inside-run.new.desk c.loop.invariant.turns (by_same s c.loop.self.share c.loop.desk w.run_inside-run.new.desk same w.run_inside-run.ensures.turns))
          (by_same s c.loop.self.share w.run_inside-run.new.desk w.apply_at_head.new.desk same w.apply_at_head.ensures.turns))
    ]

pub returns-clause-paced : goal.returns-clause-paced
returns-clause-paced g c =
    let asked = g.J.Deeds.was_asked in
    let w0 = c.args.self.now in
    let a = c.args.desk.now in
    let n = c.loop.counter in
    let before = c.loop.invariant.goes in
    let goes : GoesInPlace asked w0 c.loop-test.steps a c.loop-test.self c.loop-test.desk =
    elim c.loop-test.branch [
      | else-loop-test w ↦
          by_ends asked w0 c.loop.self c.loop-test.self c.loop.steps c.loop-test.steps a c.loop.desk c.loop-test.desk w.steps-is w.self-is w.desk-is
          (at_once asked n c.loop.steps w0 c.loop.self a c.loop.desk before)
      | then-loop-test+then-left-eq0 w ↦
          by_ends asked w0 c.loop.self c.loop-test.self (c.loop.steps + w.run_inside-run.result) c.loop-test.steps a w.run_inside-run.new.desk c.loop-test.desk w.steps-is w.self-is w.desk-is
          (at_last asked n c.loop.steps w.run_inside-run.result w0 c.loop.self a c.loop.desk w.run_inside-run.new.desk before w.run_inside-run.ensures.runs)
      | then-loop-test+else-left-eq0+then-not-apply_at_head w ↦
          let none = w.if-not-apply_at_head.ensures.none refl in
          by_ends asked w0 c.loop.self c.loop-test.self (c.loop.steps + w.run_inside-run.result) c.loop-test.steps a w.run_inside-run.new.desk c.loop-test.desk w.steps-is (w.self-is ∙ none.0) (w.desk-is ∙ none.1)
          (at_last asked n c.loop.steps w.run_inside-run.result w0 c.loop.self a c.loop.desk w.run_inside-run.new.desk before w.run_inside-run.ensures.runs)
    ] in
    let paced : c.set_pace.new.self ≡ with_pace c.loop-test.self c.args.next.now.unit (after_in_place c.args.next.now.most c.loop-test.steps (pace_of c.loop-test.self.paces c.args.next.now.unit)) = search rules in
    (c.loop-test.self, goes, paced)
