-- What belongs to one number more is at the end, and goes into what room is left.
use Rattle.std.proofs.Common.{◌≡◌, ℕ, zero, suc, ◌+◌, ◌-◌, List, [], ◌∷◌, ◌++◌, length, take, refl, sym, ◌∙◌, ap, arith, append_assoc, length-append, add-one}
use Rattle.std.specs.List.{flat_map, range_with_len}
use Rattle.std.proofs.lemmas.List.{append-nil}

flat_range : {X : Type 0} (f : ℕ → List X) (a n : ℕ) → flat_map f (range_with_len a (suc n)) ≡ flat_map f (range_with_len a n) ++ f (a + n)
flat_range f a zero = append-nil (f a) ∙ ap f (let e : a ≡ a + 0 = omega arith in e)
flat_range f a (suc n) =
    let e : (a + 1) + n ≡ a + suc n = omega arith in
    ap (λ zs. f a ++ zs) (flat_range f (a + 1) n ∙ ap (λ (k : ℕ). flat_map f (range_with_len (a + 1) n) ++ f k) e)
    ∙ sym (append_assoc (f a) (flat_map f (range_with_len (a + 1) n)) (f (a + suc n)))

pub range_more : {X : Type 0} (f : ℕ → List X) (n : ℕ) → flat_map f (range_with_len 0 n) ++ f n ≡ flat_map f (range_with_len 0 (n + 1))
range_more f n =
    let e : n ≡ 0 + n = omega arith in
    ap (λ (k : ℕ). flat_map f (range_with_len 0 n) ++ f k) e
    ∙ sym (flat_range f 0 n) ∙ ap (λ (k : ℕ). flat_map f (range_with_len 0 k)) (sym (add-one n))

-- the first of a list that goes on
take_room : {X : Type 0} (most : ℕ) (xs ys : List X) → take most (xs ++ ys) ≡ take most xs ++ take (most - length (take most xs)) ys
take_room zero xs ys = refl
take_room (suc n) [] ys = let e : suc n ≡ suc n - 0 = omega arith in ap (λ m. take m ys) e
take_room (suc n) (x ∷ xs) ys =
    let e : n - length (take n xs) ≡ suc n - suc (length (take n xs)) = omega arith in
    ap (λ rest. x ∷ rest) (take_room n xs ys) ∙ ap (λ m. x ∷ (take n xs ++ take m ys)) e

-- the list with the first of what comes after it
pub list_more : {X : Type 0} (most : ℕ) (xs ys all list new : List X) → list ≡ take most xs → xs ++ ys ≡ all → new ≡ list ++ take (most - length list) ys → new ≡ take most all
list_more {X} most xs ys all list new first both appended =
    appended ∙ ap (λ (zs : List X). zs ++ take (most - length zs) ys) first ∙ sym (take_room most xs ys) ∙ ap (take most) both

pub count_more : {X : Type 0} (xs ys all : List X) (count : ℕ) → count ≡ length xs → xs ++ ys ≡ all → count + length ys ≡ length all
count_more xs ys all count counted both =
    let e = length-append xs ys in
    let k : length (xs ++ ys) ≡ length all = ap length both in
    omega (arith, e, k, counted)
