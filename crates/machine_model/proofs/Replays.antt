-- Replays cut in two: by induction on the first part.
use Rattle.std.proofs.Common.{ℕ, List, [], ◌∷◌, ◌++◌, refl, subst}
use Rattle.task_descriptor.specs.Listing.{Listing}
use Rattle.machine_model.specs.Machine.{State}
use Rattle.machine_model.specs.Replay.{ReplaysFrom}
use Rattle.machine_model.specs.declared.event.Event.{Event}

pub cut_apart : (p : Listing) (units : ℕ) (s s' : State) (xs ys : List Event) → ReplaysFrom p units s (xs ++ ys) s' → (mid : State) × ReplaysFrom p units s xs mid × ReplaysFrom p units mid ys s'
cut_apart p units s s' [] ys h = (s, refl, h)
cut_apart p units s s' (x ∷ xs) ys h =
    let rest = cut_apart p units h.0 s' xs ys h.2 in
    (rest.0, (h.0, h.1, rest.1), rest.2)

pub joined : (p : Listing) (units : ℕ) (s mid s' : State) (xs ys : List Event) → ReplaysFrom p units s xs mid → ReplaysFrom p units mid ys s' → ReplaysFrom p units s (xs ++ ys) s'
joined p units s mid s' [] ys first second = subst (λ (x : State). ReplaysFrom p units x ys s') first second
joined p units s mid s' (x ∷ xs) ys first second =
    (first.0, first.1, joined p units first.0 mid s' xs ys first.2 second)
