-- The instructions are counted at the position, and the state is the one after them.
use Rattle.std.proofs.Common.{◌+◌, ◌^◌, ◌<◌, ap, arith}
use Rattle.task_lives.specs.Following.{FollowingView}
use Rattle.task_lives.proofs.InOrder.{have_room}
use Rattle.task_lives.proofs.EachEvent.{executed, executed_kept}
use Rattle.task_lives.proofs.following.Following.execute.Goals as goal

pub add_executed-requires : goal.add_executed-requires
add_executed-requires c =
    let i = c.self.inside in
    let f : FollowingView = record { lives = i.lives.items; queue = i.queue.items; units = i.units; retired = i.retired; events = i.events } in
    let same = ap (λ (g : FollowingView). g.events) c.self.view_is in
    let few : f.events + c.args.count < 2 ^ 32 = omega arith in
    have_room _ f.events c.args.count f.queue few c.self.invariant.in_order

pub invariant_of-self : goal.invariant_of-self
invariant_of-self c =
    let i = c.self.inside in
    let f : FollowingView = record { lives = i.lives.items; queue = i.queue.items; units = i.units; retired = i.retired; events = i.events } in
    executed_kept f c.args.position c.args.count c.add_executed.new.queue.items c.add_executed.ensures c.self.invariant

pub returns : goal.returns
returns c =
    let i = c.self.inside in
    let f : FollowingView = record { lives = i.lives.items; queue = i.queue.items; units = i.units; retired = i.retired; events = i.events } in
    executed c.args.self.now f c.args.position c.args.count c.add_executed.new.queue.items c.self.view_is c.add_executed.ensures
