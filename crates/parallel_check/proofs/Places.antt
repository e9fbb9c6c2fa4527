-- What is at the places of a list of which one was written.
use Rattle.std.proofs.Common.{◌≡◌, ◌<◌, ◌⊎◌, ℕ, suc, zero, inl, inr, Option, Some, List, [], ◌∷◌, length, set, refl, sym, ap, arith}
use Rattle.std.specs.Prelude.{slice_get}
use Rattle.std.specs.Option.{unwrap_or}

-- what is read there was written, or was there
pub written_or_there : {X : Type 0} (xs : List X) (i k : ℕ) (x y : X) → slice_get (set xs i x) k ≡ Some y → ((k ≡ i) × (y ≡ x)) ⊎ (slice_get xs k ≡ Some y)
written_or_there [] i k x y e = inr e
written_or_there {X} (z ∷ zs) zero zero x y e = inl (refl, sym (ap (λ (o : Option X). unwrap_or o x) e))
written_or_there (z ∷ zs) zero (suc k) x y e = inr e
written_or_there (z ∷ zs) (suc i) zero x y e = inr e
written_or_there (z ∷ zs) (suc i) (suc k) x y e = elim (written_or_there zs i k x y e) [
  | inl h ↦ inl (ap suc h.0, h.1)
  | inr h ↦ inr h
]

-- what is read where it was written is that
pub written : {X : Type 0} (xs : List X) (i : ℕ) (x y : X) → i < length xs → slice_get (set xs i x) i ≡ Some y → y ≡ x
written [] i x y within e = absurd (omega arith)
written {X} (z ∷ zs) zero x y within e = sym (ap (λ (o : Option X). unwrap_or o x) e)
written (z ∷ zs) (suc i) x y within e = written zs i x y (omega arith) e
