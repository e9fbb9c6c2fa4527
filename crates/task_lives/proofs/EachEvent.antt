-- What the functions for the events owe: the state that they leave is the one after the event, and what
-- is kept is kept. Each says it of the fields that it wrote.
use Rattle.std.proofs.Common.{◌≡◌, ℕ, ◌+◌, ◌%◌, ◌<◌, ◌≤◌, List, [], ◌∷◌, ◌++◌, length, take, drop, replicate, refl, sym, ap, ◌∙◌, subst}
use Rattle.machine_model.specs.declared.event.Event.{Event}
use Rattle.machine_model.specs.declared.event.Event.TheVariants.{Assign, Exec, Squash, Retire, Drop}
use Rattle.task_lives.specs.declared.life.Ending.{Ending}
use Rattle.task_lives.specs.declared.life.Ending.TheVariants.{Retired, Squashed, Dropped, Unfinished}
use Rattle.task_lives.specs.declared.life.Life.{Life}
use Rattle.task_lives.specs.declared.following.AtWork.{AtWork}
use Rattle.task_lives.specs.AtWork.{all_closed, more_executed}
use Rattle.task_lives.specs.Following.{FollowingView, IsFollowing, AreInOrder, Follows}
use Rattle.task_lives.proofs.Carrying.{length-all_closed}
use Rattle.task_lives.proofs.InOrder.{are_within}
use Rattle.task_lives.proofs.Followed.{life_at, follows_execs, follows_squash, follows_drop, follows_retire, follows_retire_none, follows_assign}
use Rattle.task_lives.proofs.Kept.{kept_front, kept_behind, kept_execs, kept_life, kept_assign}

from_view : (old f new : FollowingView) (es : List Event) → f ≡ old → Follows f es new → Follows old es new
from_view old f new es is h = subst (λ (g : FollowingView). Follows g es new) is h

-- Exec, this many times

pub executed : (old f : FollowingView) (j count : ℕ) (queue : List AtWork) → f ≡ old → queue ≡ more_executed 0 j count f.queue
    → Follows old (replicate count (Exec j)) (record f { queue = queue; events = f.events + count })
executed old f j count queue is same =
    from_view old f (record f { queue = queue; events = f.events + count }) (replicate count (Exec j)) is
    (subst (λ (q : List AtWork). Follows f (replicate count (Exec j)) (record f { queue = q; events = f.events + count })) (sym same) (follows_execs f j count))

pub executed_kept : (f : FollowingView) (j count : ℕ) (queue : List AtWork) → queue ≡ more_executed 0 j count f.queue → IsFollowing f → IsFollowing (record f { queue = queue; events = f.events + count })
executed_kept f j count queue same h =
    subst (λ (q : List AtWork). IsFollowing (record f { queue = q; events = f.events + count })) (sym same) (kept_execs f h j count)

-- Squash and Drop

abbrev pub cut : FollowingView → List AtWork → List Life → FollowingView
cut f queue lives = record f { lives = lives; queue = queue; events = f.events + 1 }

pub squashed : (old f : FollowingView) (j : ℕ) (queue : List AtWork) (lives : List Life) → f ≡ old → j < length old.queue → queue ≡ take (j + 1) f.queue → lives ≡ all_closed f.events Squashed (drop (j + 1) f.queue) f.lives
    → Follows old (Squash j ∷ []) (cut f queue lives)
squashed old f j queue lives is within q l =
    let here : j < length f.queue = subst (λ (g : FollowingView). j < length g.queue) (sym is) within in
    from_view old f (cut f queue lives) (Squash j ∷ []) is
    (subst (λ (ws : List AtWork). Follows f (Squash j ∷ []) (cut f ws lives)) (sym q)
    (subst (λ (ls : List Life). Follows f (Squash j ∷ []) (cut f (take (j + 1) f.queue) ls)) (sym l) (follows_squash f j here)))

pub dropped : (old f : FollowingView) (j : ℕ) (queue : List AtWork) (lives : List Life) → f ≡ old → j ≤ length old.queue → queue ≡ take j f.queue → lives ≡ all_closed f.events Dropped (drop j f.queue) f.lives
    → Follows old (Drop j ∷ []) (cut f queue lives)
dropped old f j queue lives is within q l =
    let here : j ≤ length f.queue = subst (λ (g : FollowingView). j ≤ length g.queue) (sym is) within in
    from_view old f (cut f queue lives) (Drop j ∷ []) is
    (subst (λ (ws : List AtWork). Follows f (Drop j ∷ []) (cut f ws lives)) (sym q)
    (subst (λ (ls : List Life). Follows f (Drop j ∷ []) (cut f (take j f.queue) ls)) (sym l) (follows_drop f j here)))

pub cut_kept : (f : FollowingView) (kept : ℕ) (ending : Ending) (queue : List AtWork) (lives : List Life) → queue ≡ take kept f.queue → lives ≡ all_closed f.events ending (drop kept f.queue) f.lives → IsFollowing f → IsFollowing (cut f queue lives)
cut_kept f kept ending queue lives q l h =
    let long : length lives ≡ length f.lives = ap length l ∙ length-all_closed f.events ending (drop kept f.queue) f.lives in
    subst (λ (ws : List AtWork). IsFollowing (cut f ws lives)) (sym q) (kept_front f h kept lives long)

-- Retire

abbrev pub passed_on : FollowingView → List AtWork → List Life → FollowingView
passed_on f queue lives = record f { lives = lives; queue = queue; retired = f.retired + 1; events = f.events + 1 }

head_retired : (ls : List Life) (ws : List AtWork) (units retired events : ℕ) → AreInOrder (length ls) events ws
    → Follows (record { lives = ls; queue = ws; units = units; retired = retired; events = events }) (Retire ∷ [])
    (record { lives = all_closed events Retired (take 1 ws) ls; queue = drop 1 ws; units = units; retired = retired + 1; events = events + 1 })
head_retired ls [] units retired events in_order =
    follows_retire_none (record { lives = ls; queue = []; units = units; retired = retired; events = events }) refl
head_retired ls (w ∷ ws) units retired events in_order =
    follows_retire (record { lives = ls; queue = w ∷ ws; units = units; retired = retired; events = events }) w ws refl in_order.2

pub retired : (old f : FollowingView) (queue : List AtWork) (lives : List Life) → f ≡ old → IsFollowing f → queue ≡ drop 1 f.queue → lives ≡ all_closed f.events Retired (take 1 f.queue) f.lives
    → Follows old (Retire ∷ []) (passed_on f queue lives)
retired old f queue lives is h q l =
    from_view old f (passed_on f queue lives) (Retire ∷ []) is
    (subst (λ (ws : List AtWork). Follows f (Retire ∷ []) (passed_on f ws lives)) (sym q)
    (subst (λ (ls : List Life). Follows f (Retire ∷ []) (passed_on f (drop 1 f.queue) ls)) (sym l) (head_retired f.lives f.queue f.units f.retired f.events h.in_order)))

pub retired_kept : (f : FollowingView) (queue : List AtWork) (lives : List Life) → queue ≡ drop 1 f.queue → lives ≡ all_closed f.events Retired (take 1 f.queue) f.lives → IsFollowing f → IsFollowing (passed_on f queue lives)
retired_kept f queue lives q l h =
    let long : length lives ≡ length f.lives = ap length l ∙ length-all_closed f.events Retired (take 1 f.queue) f.lives in
    subst (λ (ws : List AtWork). IsFollowing (passed_on f ws lives)) (sym q) (kept_behind f h lives long)

-- Assign

abbrev pub with_task : FollowingView → List AtWork → List Life → FollowingView
with_task f queue lives = record f { lives = lives; queue = queue; events = f.events + 1 }

abbrev pub new_task : FollowingView → (task : ℕ) → AtWork
new_task f task = record { index = length f.lives; life = life_at f task Unfinished }

-- the same, with the index and the number of units at work as they were counted
abbrev pub life_with : FollowingView → (task count : ℕ) → Life
life_with f task count = record {
  task = task;
  unit = (f.retired + count) % f.units;
  first = f.events;
  last = f.events;
  executed = 0;
  ending = Unfinished;
}

abbrev pub task_with : FollowingView → (task index count : ℕ) → AtWork
task_with f task index count = record { index = index; life = life_with f task count }

counted_task : (f : FollowingView) (task index count : ℕ) (queue : List AtWork) → index ≡ length f.lives → count ≡ length f.queue → queue ≡ f.queue ++ task_with f task index count ∷ [] → queue ≡ f.queue ++ new_task f task ∷ []
counted_task f task index count queue here many q = q ∙ (λ i. f.queue ++ task_with f task (here i) (many i) ∷ [])

counted_life : (f : FollowingView) (task count : ℕ) (lives : List Life) → count ≡ length f.queue → lives ≡ f.lives ++ life_with f task count ∷ [] → lives ≡ f.lives ++ life_at f task Unfinished ∷ []
counted_life f task count lives many l = l ∙ (λ i. f.lives ++ life_with f task (many i) ∷ [])

pub assigned : (old f : FollowingView) (task index count : ℕ) (queue : List AtWork) (lives : List Life) → f ≡ old → IsFollowing f → index ≡ length f.lives → count ≡ length f.queue → queue ≡ f.queue ++ task_with f task index count ∷ [] → lives ≡ f.lives ++ life_with f task count ∷ []
    → Follows old (Assign task ∷ []) (with_task f queue lives)
assigned old f task index count queue lives is h here many q l =
    from_view old f (with_task f queue lives) (Assign task ∷ []) is
    (subst (λ (ws : List AtWork). Follows f (Assign task ∷ []) (with_task f ws lives)) (sym (counted_task f task index count queue here many q))
    (subst (λ (ls : List Life). Follows f (Assign task ∷ []) (with_task f (f.queue ++ new_task f task ∷ []) ls)) (sym (counted_life f task count lives many l))
    (follows_assign f task Unfinished (new_task f task) refl refl (are_within (length f.lives) f.events f.queue h.in_order))))

pub assigned_kept : (f : FollowingView) (task index count : ℕ) (queue : List AtWork) (lives : List Life) → index ≡ length f.lives → count ≡ length f.queue → queue ≡ f.queue ++ task_with f task index count ∷ [] → lives ≡ f.lives ++ life_with f task count ∷ [] → IsFollowing f → IsFollowing (with_task f queue lives)
assigned_kept f task index count queue lives here many q l h =
    subst (λ (ws : List AtWork). IsFollowing (with_task f ws lives)) (sym (counted_task f task index count queue here many q))
    (subst (λ (ls : List Life). IsFollowing (with_task f (f.queue ++ new_task f task ∷ []) ls)) (sym (counted_life f task count lives many l)) (kept_assign f h (life_at f task Unfinished) (new_task f task) refl refl))

-- where the queue found no memory, the life stands alone
pub life_kept : (f : FollowingView) (life : Life) (queue : List AtWork) (lives : List Life) → queue ≡ f.queue → lives ≡ f.lives ++ life ∷ [] → IsFollowing f → IsFollowing (record f { lives = lives; queue = queue })
life_kept f life queue lives q l h =
    subst (λ (ws : List AtWork). IsFollowing (record f { lives = lives; queue = ws })) (sym q)
    (subst (λ (ls : List Life). IsFollowing (record f { lives = ls })) (sym l) (kept_life f h life))

-- an event that says nothing of a life

pub passed : (old new : FollowingView) (e found : Event) → e ≡ found → new ≡ record old { events = old.events + 1 } → Follows old (found ∷ []) (record old { events = old.events + 1 }) → Follows old (e ∷ []) new
passed old new e found is same h =
    subst (λ (x : Event). Follows old (x ∷ []) new) (sym is) (subst (λ (f : FollowingView). Follows old (found ∷ []) f) (sym same) h)
