-- Tasks at work that go, from the tail on.
use Rattle.std.proofs.Common.{◌≡◌, ℕ, ◌<◌, ◌≤◌, List, [], ◌∷◌, ◌++◌, length, take, drop, refl, sym, ap, ◌∙◌, subst, length-set}
use Rattle.std.specs.Prelude.{slice_set}
use Rattle.std.proofs.lemmas.List.{take-append-le, drop-append-le, take_all, drop_all}
use Rattle.task_lives.specs.declared.life.Ending.{Ending}
use Rattle.task_lives.specs.declared.life.Life.{Life}
use Rattle.task_lives.specs.declared.following.AtWork.{AtWork}
use Rattle.task_lives.specs.AtWork.{AreWithin, closed, all_closed}
use Rattle.task_lives.proofs.Carrying.{all_closed_push}

pub within_split : (n : ℕ) (ws : List AtWork) (w : AtWork) → AreWithin n (ws ++ w ∷ []) → AreWithin n ws × (w.index < n)
within_split n [] w h = (tt, h.0)
within_split n (v ∷ ws) w h =
    let rest = within_split n ws w h.1 in
    ((h.0, rest.0), rest.1)

-- so far tasks at the tail went: to end the lives of those that are left gives what it gave at first
pub record IsClosing (last : ℕ) (ending : Ending) (kept : ℕ) (before now : List AtWork) (first lives : List Life) : Type 0 where
  pub indices : AreWithin (length lives) now
  pub front : take kept now ≡ take kept before
  pub rest : all_closed last ending (drop kept now) lives ≡ all_closed last ending (drop kept before) first

pub one_closed : (last : ℕ) (ending : Ending) (kept : ℕ) (before now : List AtWork) (w : AtWork) (first lives : List Life) → kept ≤ length now → IsClosing last ending kept before (now ++ w ∷ []) first lives → IsClosing last ending kept before now first (slice_set lives w.index (closed last ending w.life))
one_closed last ending kept before now w first lives within h =
    let split = within_split (length lives) now w h.indices in
    let long = length-set lives w.index (closed last ending w.life) in
    record {
      indices = subst (λ (n : ℕ). AreWithin n now) (sym long) split.0;
      front = sym (take-append-le kept now (w ∷ []) within) ∙ h.front;
      rest =
          sym (all_closed_push last ending (drop kept now) w lives)
          ∙ ap (λ (ws : List AtWork). all_closed last ending ws lives) (sym (drop-append-le kept now (w ∷ []) within))
          ∙ h.rest;
    }

pub none_closed : (last : ℕ) (ending : Ending) (kept : ℕ) (queue : List AtWork) (lives : List Life) → AreWithin (length lives) queue → IsClosing last ending kept queue queue lives lives
none_closed last ending kept queue lives within = record { indices = within; front = refl; rest = refl }

pub front_left : (last : ℕ) (ending : Ending) (kept : ℕ) (before now : List AtWork) (first lives : List Life) → length now ≤ kept → IsClosing last ending kept before now first lives → now ≡ take kept before
front_left last ending kept before now first lives few h = sym (take_all kept now few) ∙ h.front

pub rest_closed : (last : ℕ) (ending : Ending) (kept : ℕ) (before now : List AtWork) (first lives : List Life) → length now ≤ kept → IsClosing last ending kept before now first lives → lives ≡ all_closed last ending (drop kept before) first
rest_closed last ending kept before now first lives few h =
    ap (λ (ws : List AtWork). all_closed last ending ws lives) (sym (drop_all kept now few)) ∙ h.rest
