-- The tasks at work are unfinished.
use Rattle.std.proofs.Common.{◌∙◌, ℕ, [], ap, sym, append-nil}
use Rattle.task_lives.specs.declared.life.Ending.TheVariants.{Unfinished}
use Rattle.task_lives.specs.AtWork.{all_closed}
use Rattle.task_lives.specs.Following.{FollowingView, all_lives}
use Rattle.task_lives.proofs.InOrder.{are_within}
use Rattle.task_lives.proofs.Carrying.{carried_end}
use Rattle.task_lives.proofs.following.Following.finish.Goals as goal

pub close_behind-requires : goal.close_behind-requires
close_behind-requires c = are_within _ c.self.inside.events c.self.inside.queue.items c.self.invariant.in_order

pub returns : goal.returns
returns c =
    let i = c.self.inside in
    let f : FollowingView = record { lives = i.lives.items; queue = i.queue.items; units = i.units; retired = i.retired; events = i.events } in
    c.close_behind.ensures.lives
    ∙ ap (λ (n : ℕ). all_closed n Unfinished f.queue f.lives) c.saturating_sub-last.ensures
    ∙ sym (carried_end f.events 0 f.queue f.lives)
    ∙ sym (append-nil _)
    ∙ ap (λ (g : FollowingView). all_lives g []) c.self.view_is
