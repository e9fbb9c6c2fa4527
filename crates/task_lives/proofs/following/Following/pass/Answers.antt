use Rattle.std.proofs.Common.{◌+◌, ap}
use Rattle.task_lives.specs.Following.{FollowingView}
use Rattle.task_lives.proofs.Kept.{kept_event}
use Rattle.task_lives.proofs.following.Following.pass.Goals as goal

pub invariant_of-self : goal.invariant_of-self
invariant_of-self c =
    let i = c.self.inside in
    let f : FollowingView = record { lives = i.lives.items; queue = i.queue.items; units = i.units; retired = i.retired; events = i.events } in
    kept_event f c.self.invariant

pub returns : goal.returns
returns c = ap (λ (f : FollowingView). record f { events = f.events + 1 }) c.self.view_is
