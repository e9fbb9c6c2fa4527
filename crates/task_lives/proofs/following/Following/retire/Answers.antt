-- The task at the head goes, if there is one.
use Rattle.task_lives.specs.Following.{FollowingView}
use Rattle.task_lives.proofs.InOrder.{are_within}
use Rattle.task_lives.proofs.EachEvent.{retired, retired_kept}
use Rattle.task_lives.proofs.following.Following.retire.Goals as goal

pub close_head-requires : goal.close_head-requires
close_head-requires c = are_within _ c.self.inside.events c.self.inside.queue.items c.self.invariant.in_order

pub invariant_of-self : goal.invariant_of-self
invariant_of-self c =
    let i = c.self.inside in
    let f : FollowingView = record { lives = i.lives.items; queue = i.queue.items; units = i.units; retired = i.retired; events = i.events } in
    retired_kept f c.close_head.new.queue.items c.close_head.new.lives.items c.close_head.ensures.queue c.close_head.ensures.lives c.self.invariant

pub returns : goal.returns
returns c =
    let i = c.self.inside in
    let f : FollowingView = record { lives = i.lives.items; queue = i.queue.items; units = i.units; retired = i.retired; events = i.events } in
    retired c.args.self.now f c.close_head.new.queue.items c.close_head.new.lives.items c.self.view_is c.self.invariant c.close_head.ensures.queue c.close_head.ensures.lives
