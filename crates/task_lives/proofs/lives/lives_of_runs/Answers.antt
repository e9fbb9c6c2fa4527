-- Each run fits after those before it, and has room.
use Rattle.std.proofs.Common.{ℕ, List, length, replicate, sym, ap, ◌∙◌, subst, arith}
use Rattle.machine_model.specs.Runs.{events_of}
use Rattle.task_lives.specs.declared.following.AtWork.{AtWork}
use Rattle.task_lives.specs.declared.life.Life.{Life}
use Rattle.task_lives.specs.Lives.{AllFit}
use Rattle.task_lives.specs.Sums.{AreFew}
use Rattle.task_lives.proofs.Counted.{lives_are_few}
use Rattle.task_lives.proofs.RunByRun.{run_has_room, run_fits, followed_run, followed_all}
use Rattle.task_lives.proofs.lives.lives_of_runs.Goals as goal

pub loop-run-init : goal.loop-run-init
loop-run-init c = record {
  lives = λ es. c.new-following.ensures.lives es;
  counted = c.new-following.ensures.events;
  active = ap (λ (ws : List AtWork). length ws) c.new-following.ensures.queue;
}

pub follow_run-requires-clause-fit : goal.follow_run-requires-clause-fit
follow_run-requires-clause-fit c =
    let run = c.run-item.result in
    subst (λ (a : ℕ). AllFit a (replicate run.count run.event)) (sym c.loop-run.invariant.active)
    (run_fits c.args.runs.now c.loop-run.run-index run c.loop-run-test.true c.run-item.is c.requires.fit)

pub follow_run-requires-clause-room : goal.follow_run-requires-clause-room
follow_run-requires-clause-room c =
    let room = run_has_room c.args.runs.now c.loop-run.run-index c.run-item.result c.loop-run-test.true c.run-item.is in
    omega (arith, room, c.loop-run.invariant.counted, c.requires.room)

pub loop-run-preserved : goal.loop-run-preserved
loop-run-preserved c =
    followed_run c.args.units c.args.runs.now c.loop-run.run-index c.run-item.result c.loop-run.following c.follow_run.new.self c.loop-run-test.true c.run-item.is c.loop-run.invariant c.in_ok-follow_run.ensures

pub returns-clause-exact : goal.returns-clause-exact
returns-clause-exact c =
    c.finish.ensures ∙ followed_all c.args.units c.args.runs.now c.loop-run.run-index c.loop-run.following c.loop-run-test.false c.loop-run.invariant

pub returns-clause-few : goal.returns-clause-few
returns-clause-few c =
    let exact = c.finish.ensures ∙ followed_all c.args.units c.args.runs.now c.loop-run.run-index c.loop-run.following c.loop-run-test.false c.loop-run.invariant in
    subst (λ (lives : List Life). AreFew lives) (sym exact) (lives_are_few c.args.units (events_of c.args.runs.now) c.requires.fit c.requires.room)
