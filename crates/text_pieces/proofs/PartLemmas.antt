-- What was read, and what is read behind it, is what is read at once.
use Rattle.std.proofs.Common.{◌≡◌, ℕ, ◌+◌, ◌-◌, ◌*◌, ◌<◌, ◌≤◌, min, true, List, [], ◌∷◌, ◌++◌, length, get_or, take, drop, Result, Ok, Err, OnOk, is_ok, sym, ◌∙◌, ap, ap₂, subst, arith, take-add, drop-drop, length-append}
use Rattle.std.proofs.lemmas.List.{get_or_append_left}
use Rattle.std.proofs.Math.Seq.{get_or-append_seam}

pub on_ok : {T E : Type 0} {P : Type 0} (r : Result T E) → is_ok r ≡ true → OnOk r P → P
on_ok (Ok x) e p = p
on_ok (Err x) e p = cc e

pub read_on : (from n count : ℕ) (bytes front back : List ℕ) → front ≡ take n (drop from bytes) → back ≡ take count (drop (from + n) bytes) → front ++ back ≡ take (n + count) (drop from bytes)
read_on from n count bytes front back first second =
    ap₂ (λ (xs ys : List ℕ). xs ++ ys) first (second ∙ ap (take count) (sym (drop-drop n from bytes)))
    ∙ sym (take-add n count (drop from bytes))

-- the same where the last `count` bytes are the first of a buffer
pub read_more : (from n offset count more : ℕ) (bytes all buffer new : List ℕ) → all ≡ take n (drop from bytes) → take count buffer ≡ take count (drop offset bytes) → offset ≡ from + n → new ≡ all ++ take count buffer → n + count ≡ more → new ≡ take more (drop from bytes)
read_more from n offset count more bytes all buffer new first second there is sum =
    is ∙ (read_on from n count bytes all (take count buffer) first (second ∙ ap (λ (k : ℕ). take count (drop k bytes)) there)
    ∙ ap (λ (k : ℕ). take k (drop from bytes)) sum)

-- a part more of parts of one size
pub one_part_more : (size n more : ℕ) (bytes text part new : List ℕ) → text ≡ take (size * n) bytes → part ≡ take size (drop (size * n) bytes) → new ≡ text ++ part → more ≡ n + 1 → new ≡ take (size * more) bytes
one_part_more size n more bytes text part new first second is one =
    is ∙ (ap₂ (λ (xs ys : List ℕ). xs ++ ys) first second
    ∙ (sym (take-add (size * n) size bytes) ∙ ap (λ (k : ℕ). take k bytes) (rw one (omega arith))))

-- what holds of each of a list and one more holds of each of the list, and of the one
pub each_front : {X : Type 0} (P : ℕ → X → Type 0) (xs : List X) (y : X) → ((i : ℕ) (none : X) → i < length (xs ++ y ∷ []) → P i (get_or (xs ++ y ∷ []) i none)) → (i : ℕ) (none : X) → i < length xs → P i (get_or xs i none)
each_front P xs y h i none lt =
    subst (P i) (get_or_append_left xs (y ∷ []) none i lt)
    (h i none (rw (length-append xs (y ∷ [])) (omega arith)))

pub each_last : {X : Type 0} (P : ℕ → X → Type 0) (xs : List X) (y : X) → ((i : ℕ) (none : X) → i < length (xs ++ y ∷ []) → P i (get_or (xs ++ y ∷ []) i none)) → P (length xs) y
each_last P xs y h =
    subst (P (length xs)) (get_or-append_seam xs y [] y)
    (h (length xs) y (rw (length-append xs (y ∷ [])) (omega arith)))

-- the rest behind the parts
pub rest_too : (front all : ℕ) (bytes text rest new : List ℕ) → text ≡ take front bytes → rest ≡ take (all - front) (drop front bytes) → new ≡ text ++ rest → front ≤ all → new ≡ take all bytes
rest_too front all bytes text rest new first second is within =
    is ∙ (ap₂ (λ (xs ys : List ℕ). xs ++ ys) first second
    ∙ (sym (take-add front (all - front) bytes) ∙ ap (λ (k : ℕ). take k bytes) (omega arith)))

-- no more is read than is still asked for
pub reads_within : (n count more most len wanted chunk buffer : ℕ) → n + count ≡ more → count ≤ buffer → buffer ≡ min wanted chunk → wanted ≡ min 65536 (most - len) → len ≡ n → n ≤ most → more ≤ most
reads_within n count more most len wanted chunk buffer sum few is asked now before = omega arith

pub rest_within : (text rest front length most : ℕ) → text ≡ front → rest ≤ most + 1 - front → front ≤ length → length ≤ most → text + rest ≤ most + 1
rest_within text rest front length most is few least within = omega arith
