-- Events that are equal, and runs of them, followed one after the other.
use Rattle.std.proofs.Common.{◌≡◌, ℕ, zero, suc, ◌+◌, ◌<◌, ◌≤◌, List, [], ◌∷◌, ◌++◌, length, get_or, take, drop, sym, ap, ◌∙◌, subst, arith, append_assoc, append-nil, length-append}
use Rattle.std.specs.Prelude.{flat_map, replicate}
use Rattle.std.specs.List.{fold}
use Rattle.std.proofs.lemmas.List.{take_more, take_all, take-append-drop, length-replicate, replicate_more}
use Rattle.std.proofs.lemmas.List.Concat.{flat_map-append}
use Rattle.std.proofs.lemmas.List.Sums.{fold-append}
use Rattle.machine_model.specs.HeadEvent.{active_after}
use Rattle.machine_model.specs.declared.event.Event.{Event}
use Rattle.machine_model.specs.declared.event.EventRun.{EventRun}
use Rattle.machine_model.specs.Runs.{events_of}
use Rattle.task_lives.specs.Lives.{lives_of, Fits, AllFit}
use Rattle.task_lives.specs.Following.{FollowingView, Follows, all_lives}
use Rattle.task_lives.proofs.Followed.{follows_join}

-- equal events

pub fit_at : (a i n : ℕ) (e : Event) → i < n → AllFit a (replicate n e) → Fits (fold active_after a (replicate i e)) e
fit_at a i zero e within h = absurd (omega arith)
fit_at a zero (suc n) e within h = h.0
fit_at a (suc i) (suc n) e within h = fit_at (active_after a e) i n e (omega arith) h.1

pub follows_more : (f g h : FollowingView) (e : Event) (i : ℕ) → Follows f (replicate i e) g → Follows g (e ∷ []) h → Follows f (replicate (i + 1) e) h
follows_more f g h e i before next =
    subst (λ (es : List Event). Follows f es h) (replicate_more i e) (follows_join f g h (replicate i e) (e ∷ []) before next)

-- events in two parts

fit_parts : (a : ℕ) (xs ys : List Event) → AllFit a (xs ++ ys) → AllFit a xs × AllFit (fold active_after a xs) ys
fit_parts a [] ys h = (tt, h)
fit_parts a (x ∷ xs) ys h =
    let rest = fit_parts (active_after a x) xs ys h.1 in
    ((h.0, rest.0), rest.1)

-- one run more

abbrev each : EventRun → List Event
each run = replicate run.count run.event

events_more : (runs : List EventRun) (i : ℕ) (run : EventRun) → i < length runs → run ≡ get_or runs i run → events_of (take (i + 1) runs) ≡ events_of (take i runs) ++ each run
events_more runs i run within is =
    ap (flat_map each) (take_more runs i run within) ∙ flat_map-append each (take i runs) (get_or runs i run ∷ [])
    ∙ ap (λ (r : EventRun). flat_map each (take i runs) ++ (each r ++ [])) (sym is)
    ∙ ap (λ (last : List Event). flat_map each (take i runs) ++ last) (append-nil (each run))

events_split : (runs : List EventRun) (i : ℕ) (run : EventRun) → i < length runs → run ≡ get_or runs i run → events_of runs ≡ (events_of (take i runs) ++ each run) ++ events_of (drop (i + 1) runs)
events_split runs i run within is =
    ap (flat_map each) (sym (take-append-drop (i + 1) runs))
    ∙ flat_map-append each (take (i + 1) runs) (drop (i + 1) runs)
    ∙ ap (λ (es : List Event). es ++ events_of (drop (i + 1) runs)) (events_more runs i run within is)

pub run_has_room : (runs : List EventRun) (i : ℕ) (run : EventRun) → i < length runs → run ≡ get_or runs i run → length (events_of (take i runs)) + run.count ≤ length (events_of runs)
run_has_room runs i run within is =
    let all : length (events_of runs) ≡ length ((events_of (take i runs) ++ each run) ++ events_of (drop (i + 1) runs)) = ap length (events_split runs i run within is) in
    let two = length-append (events_of (take i runs) ++ each run) (events_of (drop (i + 1) runs)) in
    let one = length-append (events_of (take i runs)) (each run) in
    let long = length-replicate run.count run.event in
    omega (arith, all, two, one, long)

pub run_fits : (runs : List EventRun) (i : ℕ) (run : EventRun) → i < length runs → run ≡ get_or runs i run → AllFit 0 (events_of runs) → AllFit (fold active_after 0 (events_of (take i runs))) (replicate run.count run.event)
run_fits runs i run within is fit =
    let split = subst (λ (es : List Event). AllFit 0 es) (events_split runs i run within is) fit in
    let front = (fit_parts 0 (events_of (take i runs) ++ each run) (events_of (drop (i + 1) runs)) split).0 in
    (fit_parts 0 (events_of (take i runs)) (each run) front).1

-- after this many runs
pub record IsFollowedTo (units : ℕ) (events : List Event) (f : FollowingView) : Type 0 where
  pub lives : (es : List Event) → all_lives f es ≡ lives_of units (events ++ es)
  pub counted : f.events ≡ length events
  pub active : length f.queue ≡ fold active_after 0 events

followed_on : (units : ℕ) (xs ys : List Event) (f g : FollowingView) → IsFollowedTo units xs f → Follows f ys g → IsFollowedTo units (xs ++ ys) g
followed_on units xs ys f g h next = record {
  lives = λ es. sym (next.same es) ∙ h.lives (ys ++ es) ∙ ap (λ (all : List Event). lives_of units all) (sym (append_assoc xs ys es));
  counted =
      next.counted ∙ ap (λ (n : ℕ). n + length ys) h.counted ∙ sym (length-append xs ys);
  active =
      next.active
      ∙ ap (λ (n : ℕ). fold active_after n ys) h.active
      ∙ sym (fold-append active_after 0 xs ys);
}

pub followed_run : (units : ℕ) (runs : List EventRun) (i : ℕ) (run : EventRun) (f g : FollowingView) → i < length runs → run ≡ get_or runs i run
    → IsFollowedTo units (events_of (take i runs)) f → Follows f (replicate run.count run.event) g → IsFollowedTo units (events_of (take (i + 1) runs)) g
followed_run units runs i run f g within is h next =
    subst (λ (es : List Event). IsFollowedTo units es g) (sym (events_more runs i run within is))
    (followed_on units (events_of (take i runs)) (each run) f g h next)

pub followed_all : (units : ℕ) (runs : List EventRun) (i : ℕ) (f : FollowingView) → length runs ≤ i → IsFollowedTo units (events_of (take i runs)) f → all_lives f [] ≡ lives_of units (events_of runs)
followed_all units runs i f all h =
    h.lives []
    ∙ ap (λ (es : List Event). lives_of units es) (append-nil (events_of (take i runs)))
    ∙ ap (λ (rs : List EventRun). lives_of units (events_of rs)) (take_all i runs all)
