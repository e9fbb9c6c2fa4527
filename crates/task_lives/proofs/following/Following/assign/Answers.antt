-- The life has the next index.
use Rattle.std.proofs.Common.{◌≡◌, length, arith}
use Rattle.task_lives.specs.Following.{FollowingView}
use Rattle.task_lives.proofs.EachEvent.{assigned, assigned_kept, life_kept}
use Rattle.task_lives.proofs.following.Following.assign.Goals as goal

pub invariant_of-self-in_err-push-2 : goal.invariant_of-self-in_err-push-2
invariant_of-self-in_err-push-2 c =
    let i = c.self.inside in
    let f : FollowingView = record { lives = i.lives.items; queue = i.queue.items; units = i.units; retired = i.retired; events = i.events } in
    life_kept f _ c.push-2.new.self.items c.push.new.self.items c.in_err-push-2.ensures.items c.in_ok-push.ensures.items c.self.invariant

pub invariant_of-self-2 : goal.invariant_of-self-2
invariant_of-self-2 c =
    let i = c.self.inside in
    let f : FollowingView = record { lives = i.lives.items; queue = i.queue.items; units = i.units; retired = i.retired; events = i.events } in
    let index : c.len-index.result ≡ length f.lives = omega (arith, c.len-index.ensures, i.lives.ok.0) in
    let many : c.len.result ≡ length f.queue = omega (arith, c.len.ensures, i.queue.ok.0) in
    assigned_kept f c.args.task c.len-index.result c.len.result c.push-2.new.self.items c.push.new.self.items index many c.in_ok-push-2.ensures.items c.in_ok-push.ensures.items c.self.invariant

pub returns : goal.returns
returns c =
    let i = c.self.inside in
    let f : FollowingView = record { lives = i.lives.items; queue = i.queue.items; units = i.units; retired = i.retired; events = i.events } in
    let index : c.len-index.result ≡ length f.lives = omega (arith, c.len-index.ensures, i.lives.ok.0) in
    let many : c.len.result ≡ length f.queue = omega (arith, c.len.ensures, i.queue.ok.0) in
    assigned c.args.self.now f c.args.task c.len-index.result c.len.result c.push-2.new.self.items c.push.new.self.items c.self.view_is c.self.invariant index many c.in_ok-push-2.ensures.items c.in_ok-push.ensures.items
