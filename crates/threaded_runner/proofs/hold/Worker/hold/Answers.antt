use Rattle.threaded_runner.proofs.Imports.{◌≡◌, true, inl, sym, ◌∙◌, subst, true≢false, arith, Share, TakesTurns}
use Rattle.threaded_runner.proofs.Going.{more_turns}
use Rattle.threaded_runner.proofs.HoldTurning.{one_more_turn}
use Rattle.threaded_runner.proofs.hold.Worker.hold.Goals as goal

-- one turn more, by a worker of the same units
pub loop-preserved : goal.loop-preserved
loop-preserved g c =
    let s = c.args.self.now.share in
    let before = c.loop.invariant.stays in
    let after = c.in-None.ensures.stays in
    let one : TakesTurns s 1 c.loop.desk c.take_turn.new.desk =
    subst (λ (x : Share). TakesTurns x 1 c.loop.desk c.take_turn.new.desk) before.share c.in-None.ensures.turn.0 in
    let goes : c.loop.desk.is_stopped ≡ true → ⊥ = λ stop. true≢false (sym (c.is_done.ensures.1 (inl stop)) ∙ c.if-is_done.false) in
    record {
      turns = more_turns s c.loop.counter 1 c.args.desk.now c.loop.desk c.take_turn.new.desk goes c.loop.invariant.turns one;
      does = one_more_turn g.J.Deeds.was_asked c.loop.counter c.args.self.now c.loop.self c.take_turn.new.self c.args.desk.now c.loop.desk c.take_turn.new.desk c.loop.invariant.does c.in-None.ensures.turn.1;
      stays = record { share = after.share ∙ before.share; budget = after.budget ∙ before.budget };
    }

pub returns-clause-long : goal.returns-clause-long
returns-clause-long g c = λ is. (c.loop.counter, omega (arith, c.loop-test.false, c.loop.auto.counter-end), c.loop.invariant.does)
