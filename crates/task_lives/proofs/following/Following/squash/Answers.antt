-- The tasks after the position go.
use Rattle.std.proofs.Common.{◌+◌}
use Rattle.task_lives.specs.declared.life.Ending.TheVariants.{Squashed}
use Rattle.task_lives.specs.Following.{FollowingView}
use Rattle.task_lives.proofs.InOrder.{are_within}
use Rattle.task_lives.proofs.EachEvent.{squashed, cut_kept}
use Rattle.task_lives.proofs.following.Following.squash.Goals as goal

pub close_behind-requires : goal.close_behind-requires
close_behind-requires c = are_within _ c.self.inside.events c.self.inside.queue.items c.self.invariant.in_order

pub invariant_of-self : goal.invariant_of-self
invariant_of-self c =
    let i = c.self.inside in
    let f : FollowingView = record { lives = i.lives.items; queue = i.queue.items; units = i.units; retired = i.retired; events = i.events } in
    cut_kept f (c.args.position + 1) Squashed c.close_behind.new.queue.items c.close_behind.new.lives.items c.close_behind.ensures.queue c.close_behind.ensures.lives c.self.invariant

pub returns : goal.returns
returns c =
    let i = c.self.inside in
    let f : FollowingView = record { lives = i.lives.items; queue = i.queue.items; units = i.units; retired = i.retired; events = i.events } in
    squashed c.args.self.now f c.args.position c.close_behind.new.queue.items c.close_behind.new.lives.items c.self.view_is c.requires.fits c.close_behind.ensures.queue c.close_behind.ensures.lives
