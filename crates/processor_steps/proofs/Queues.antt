-- The units of a queue seen as the model's: a position, the tail.
use Rattle.std.proofs.Common.{◌≡◌, ℕ, suc, zero, ◌+◌, ◌-◌, ◌<◌, Bool, true, false, ◌||◌, take, drop, get_or, List, [], ◌∷◌, ◌++◌, length, Option, Some, None, refl, sym, ap, ◌∙◌, subst, arith}
use Rattle.std.specs.Prelude.{slice_get, slice_set, map}
use Rattle.std.proofs.lemmas.List.{map-set, map-append, take_more}
use Rattle.std.proofs.lemmas.List.Folds.{list_any-append}
use Rattle.task_descriptor.specs.Listing.{Listing}
use Rattle.machine_model.specs.Machine.{creates}
use Rattle.machine_model.specs.Step.{is_reserved}
use Rattle.std.specs.List.{last_or}
use Rattle.std.specs.Option.{option_map}
use Rattle.machine_model.specs.Machine.{Active}
use Rattle.unit_core.specs.Units.{UnitView, active_of}
use Rattle.processor_steps.specs.Processors.{QueueView, actives}

last_from : {X : Type 0} (x : X) (xs : List X) → slice_get (x ∷ xs) (length xs) ≡ last_or (Some x) xs
last_from x [] = refl
last_from x (y ∷ ys) = last_from y ys

pub last_is : {X : Type 0} (xs : List X) → slice_get xs (length xs - 1) ≡ last_or None xs
last_is [] = refl
last_is {X} (x ∷ xs) =
    let same : suc (length xs) - 1 ≡ length xs = omega arith in
    ap (λ (n : ℕ). slice_get (x ∷ xs) n) same ∙ last_from x xs

last_map_from : {X Y : Type 0} (f : X → Y) (o : Option X) (xs : List X) → option_map f (last_or o xs) ≡ last_or (option_map f o) (map f xs)
last_map_from f o [] = refl
last_map_from f o (x ∷ xs) = last_map_from f (Some x) xs

pub last_map : {X Y : Type 0} (f : X → Y) (xs : List X) → option_map f (last_or None xs) ≡ last_or None (map f xs)
last_map f xs = last_map_from f None xs

pub at_map : {X Y : Type 0} (f : X → Y) (xs : List X) (k : ℕ) → option_map f (slice_get xs k) ≡ slice_get (map f xs) k
at_map f [] k = refl
at_map f (x ∷ xs) zero = refl
at_map f (x ∷ xs) (suc k) = at_map f xs k

-- the unit found at a position is the active task there
pub unit_is : (us : List UnitView) (q : QueueView) (k : ℕ) (x : UnitView) (u : Active) → map active_of us ≡ actives q → Some x ≡ slice_get us k → slice_get (actives q) k ≡ Some u → active_of x ≡ u
unit_is us q k x u same here there =
    let found : Some (active_of x) ≡ Some u = ap (option_map active_of) here ∙ at_map active_of us k ∙ ap (λ (v : List Active). slice_get v k) same ∙ there in
    cc

-- and one is there
pub is_there : (us : List UnitView) (q : QueueView) (k : ℕ) (x : UnitView) → map active_of us ≡ actives q → Some x ≡ slice_get us k → slice_get (actives q) k ≡ Some (active_of x)
is_there us q k x same here =
    sym (ap (option_map active_of) here ∙ at_map active_of us k ∙ ap (λ (v : List Active). slice_get v k) same)

-- a unit changed at a position is the active task changed there
pub changed : (us : List UnitView) (q : QueueView) (k : ℕ) (v : UnitView) (w : Active) → map active_of us ≡ actives q → active_of v ≡ w → map active_of (slice_set us k v) ≡ slice_set (actives q) k w
changed us q k v w same is =
    map-set active_of us k v ∙ ap (λ (x : List Active). slice_set x k (active_of v)) same ∙ ap (λ (x : Active). slice_set (actives q) k x) is

-- what holds of each element holds still where one changes to another of which it holds
pub holds_after : {X : Type 0} (P : X → Type 0) (xs : List X) (i : ℕ) (y : X) → ((k : ℕ) (x : X) → slice_get xs k ≡ Some x → P x) → P y → (k : ℕ) (x : X) → slice_get (slice_set xs i y) k ≡ Some x → P x
holds_after P [] i y all h k x e = all k x e
holds_after P (z ∷ zs) zero y all h zero x e = (let same : y ≡ x = cc in subst P same h)
holds_after P (z ∷ zs) zero y all h (suc k) x e = all (suc k) x e
holds_after P (z ∷ zs) (suc i) y all h zero x e = all zero x e
holds_after P (z ∷ zs) (suc i) y all h (suc k) x e = holds_after P zs i y (λ j w f. all (suc j) w f) h k x e

-- the registers that the units may produce, one unit more, and two lists joined
or_false : (b : Bool) → (b || false) ≡ b
or_false true = refl
or_false false = refl

pub reserved_joined : (p : Listing) (us vs : List UnitView) (r : ℕ) → is_reserved p (map active_of (us ++ vs)) r ≡ (is_reserved p (map active_of us) r || is_reserved p (map active_of vs) r)
reserved_joined p us vs r =
    ap (λ (ws : List Active). is_reserved p ws r) (map-append active_of us vs)
    ∙ list_any-append (λ (u : Active). creates p u.task r) (map active_of us) (map active_of vs)

pub reserved_more : (p : Listing) (us : List UnitView) (i : ℕ) (u : UnitView) (r : ℕ) → i < length us → u ≡ get_or us i u → is_reserved p (map active_of (take (i + 1) us)) r ≡ (is_reserved p (map active_of (take i us)) r || creates p (active_of u).task r)
reserved_more p us i u r within here =
    ap (λ (ws : List UnitView). is_reserved p (map active_of ws) r) (take_more us i u within ∙ ap (λ (v : UnitView). take i us ++ v ∷ []) (sym here))
    ∙ reserved_joined p (take i us) (u ∷ []) r
    ∙ ap (λ (b : Bool). is_reserved p (map active_of (take i us)) r || b) (or_false (creates p (active_of u).task r))

-- after a head that changed the queue is as it was
pub behind_head : {X : Type 0} (xs : List X) (x : X) → drop 1 (slice_set xs 0 x) ≡ drop 1 xs
behind_head [] x = refl
behind_head (y ∷ ys) x = refl

-- a unit put back where it was
pub set_back : {X : Type 0} (xs : List X) (k : ℕ) (x : X) → Some x ≡ slice_get xs k → slice_set xs k x ≡ xs
set_back [] k x e = refl
set_back {X} (y ∷ ys) zero x e = (let same : x ≡ y = cc in ap (λ (z : X). z ∷ ys) same)
set_back {X} (y ∷ ys) (suc k) x e = ap (λ (zs : List X). y ∷ zs) (set_back ys k x e)
