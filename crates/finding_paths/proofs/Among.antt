-- Membership by recursion on the list.
use Rattle.std.proofs.Common.{◌≡◌, ℕ, zero, suc, ◌<◌, ◌⊎◌, inl, inr, List, [], ◌∷◌, ◌++◌, Bool, true, false, cond, length, get_or, map, refl, subst, arith}
use Rattle.std.specs.Prelude.{Contains, filter}
use Rattle.std.specs.List.{flat_map}

abbrev pub Among : {X : Type 0} → List X → X → Type 0
Among [] y = ⊥
Among (x ∷ xs) y = (x ≡ y) ⊎ Among xs y

at_place : {X : Type 0} (xs : List X) (k : ℕ) (y : X) → k < length xs → get_or xs k y ≡ y → Among xs y
at_place [] k y less e = absurd (omega arith)
at_place (x ∷ xs) zero y less e = inl e
at_place (x ∷ xs) (suc k) y less e = inr (at_place xs k y (omega arith) e)

pub among : {X : Type 0} (xs : List X) (y : X) → Contains xs y → Among xs y
among xs y h = at_place xs h.0 y h.1 h.2

-- the place of a member
pub among_get : {X : Type 0} (xs : List X) (d y : X) → Among xs y → (k : ℕ) × (k < length xs) × (get_or xs k d ≡ y)
among_get [] d y h = absurd h
among_get (x ∷ xs) d y (inl e) = (0, omega arith, e)
among_get (x ∷ xs) d y (inr h) = let r = among_get xs d y h in (suc r.0, omega (arith, r.1), r.2)

pub among_append : {X : Type 0} (xs ys : List X) (y : X) → Among (xs ++ ys) y → Among xs y ⊎ Among ys y
among_append [] ys y h = inr h
among_append (x ∷ xs) ys y (inl e) = inl (inl e)
among_append (x ∷ xs) ys y (inr h) = elim (among_append xs ys y h) [
  | inl a ↦ inl (inr a)
  | inr b ↦ inr b
]

pub among_map : {X Y : Type 0} (f : X → Y) (xs : List X) (y : Y) → Among (map f xs) y → (x : X) × Among xs x × (f x ≡ y)
among_map f [] y h = absurd h
among_map f (x ∷ xs) y (inl e) = (x, inl refl, e)
among_map f (x ∷ xs) y (inr h) = let r = among_map f xs y h in (r.0, inr r.1, r.2)

filter_step : {X : Type 0} (test : X → Bool) (x y : X) (rest : List X) (b : Bool) → test x ≡ b → (Among rest y → test y ≡ true)
    → Among (cond b (x ∷ rest) rest) y → test y ≡ true
filter_step {X} test x y rest true e behind (inl same) = subst (λ (z : X). test z ≡ true) same e
filter_step test x y rest true e behind (inr h) = behind h
filter_step test x y rest false e behind h = behind h

pub among_filter : {X : Type 0} (test : X → Bool) (xs : List X) (y : X) → Among (filter test xs) y → test y ≡ true
among_filter test [] y h = absurd h
among_filter test (x ∷ xs) y h = filter_step test x y (filter test xs) (test x) refl (λ a. among_filter test xs y a) h

pub among_flat : {X Y : Type 0} (f : X → List Y) (xs : List X) (y : Y) → Among (flat_map f xs) y → (x : X) × Among xs x × Among (f x) y
among_flat f [] y h = absurd h
among_flat f (x ∷ xs) y h = elim (among_append (f x) (flat_map f xs) y h) [
  | inl a ↦ (x, inl refl, a)
  | inr b ↦ let r = among_flat f xs y b in (r.0, inr r.1, r.2)
]
