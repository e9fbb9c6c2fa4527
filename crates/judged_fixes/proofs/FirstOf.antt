-- The first of some elements that pass a test.
use Rattle.std.proofs.Common.{◌≡◌, ◌∙◌, ℕ, ◌<◌, ◌≤◌, suc, zero, Bool, true, false, cond, List, [], ◌∷◌, length, set, slice_get, Option, Some, None, refl, arith}
use Rattle.std.specs.Prelude.{◌||◌, IfSome}
use Rattle.std.specs.List.{find, list_any, position, position_or_len}
use Rattle.std.proofs.lemmas.Grind.{common_steps}
use Rattle.std.proofs.lemmas.List.Folds.{find-set, find_at}

at_first : {X : Type 0} (p : X → Bool) (xs : List X) (k : ℕ) → position p xs ≡ Some k → k ≡ position_or_len p xs
at_first p xs k e = grind (arith, common_steps)

inside : {X : Type 0} (p : X → Bool) (xs : List X) (k : ℕ) → position p xs ≡ Some k → k < length xs
inside p xs k e = grind (arith, common_steps)

-- another is written at its place, which passes, too
pub set_first : {X : Type 0} (p : X → Bool) (xs : List X) (k : ℕ) (y : X) → position p xs ≡ Some k → p y ≡ true → find p (set xs k y) ≡ Some y
set_first p xs k y e passes = find-set p xs k y (at_first p xs k e) (inside p xs k e) passes

-- where none is, none is found
get_past : {X : Type 0} (xs : List X) (n : ℕ) → length xs ≤ n → slice_get xs n ≡ None
get_past [] n h = refl
get_past (x ∷ xs) zero h = absurd (omega (arith, h))
get_past (x ∷ xs) (suc n) h = get_past xs n (omega (arith, h))

beyond : {X : Type 0} (p : X → Bool) (xs : List X) → position p xs ≡ None → length xs ≤ position_or_len p xs
beyond p xs e = grind (arith, common_steps)

pub none_first : {X : Type 0} (p : X → Bool) (xs : List X) → position p xs ≡ None → find p xs ≡ None
none_first p xs e = find_at p xs ∙ get_past xs (position_or_len p xs) (beyond p xs e)

either : {X : Type 0} (P : X → Type 0) (b : Bool) (x : X) (o : Option X) → P x → IfSome o P → IfSome (cond b (Some x) o) P
either P true x o first rest = first
either P false x o first rest = rest

here : (a b : Bool) → (a || b) ≡ false → a ≡ false
here true b e = e
here false b e = refl

there : (a b : Bool) → (a || b) ≡ false → b ≡ false
there true b e = absurd (cc)
there false b e = e

-- where none has something, the first has not
pub none_has : {X : Type 0} (has p : X → Bool) (xs : List X) → list_any has xs ≡ false → IfSome (find p xs) (λ x. has x ≡ false)
none_has has p [] e = tt
none_has has p (x ∷ xs) e = either (λ y. has y ≡ false) (p x) x (find p xs) (here (has x) (list_any has xs) e) (none_has has p xs (there (has x) (list_any has xs) e))
