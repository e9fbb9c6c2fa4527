-- Equal events, one after the other: each fits, and has room.
use Rattle.std.proofs.Common.{◌≡◌, ℕ, length, replicate, sym, subst, arith}
use Rattle.std.proofs.lemmas.List.{length-replicate}
use Rattle.task_lives.specs.Lives.{Fits}
use Rattle.task_lives.specs.Following.{Follows}
use Rattle.task_lives.proofs.Followed.{follows_none}
use Rattle.task_lives.proofs.RunByRun.{fit_at, follows_more}
use Rattle.task_lives.proofs.following.Following.follow_run.Goals as goal

pub loop-init : goal.loop-init
loop-init c = follows_none c.args.self.now

pub follow-requires-clause-fits : goal.follow-requires-clause-fits
follow-requires-clause-fits c =
    subst (λ (a : ℕ). Fits a c.args.run.event) (sym c.loop.invariant.active)
    (fit_at (length c.args.self.now.queue) c.loop.counter c.args.run.count c.args.run.event c.loop-test.true c.requires.fit)

pub follow-requires-clause-room : goal.follow-requires-clause-room
follow-requires-clause-room c =
    let long = length-replicate c.loop.counter c.args.run.event in
    omega (arith, long, c.loop.invariant.counted, c.requires.room, c.loop-test.true)

pub loop-preserved : goal.loop-preserved
loop-preserved c = follows_more c.args.self.now c.loop.self c.follow.new.self c.args.run.event c.loop.counter c.loop.invariant c.in_ok-follow.ensures

pub returns : goal.returns
returns c =
    let all : c.loop.counter ≡ c.args.run.count = omega arith in
    subst (λ (n : ℕ). Follows c.args.self.now (replicate n c.args.run.event) c.loop.self) all c.loop.invariant
