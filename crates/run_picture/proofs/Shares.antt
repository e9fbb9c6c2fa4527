-- The shares of some lives, as a list: one life more adds what it counts for each part.
use Rattle.std.proofs.Common.{◌≡◌, ℕ, zero, suc, ◌+◌, ◌*◌, ◌<◌, ◌≤◌, ◌^◌, List, [], ◌∷◌, ◌++◌, length, map, take, get_or, refl, sym, ap, ◌∙◌, arith, replicate, add-one}
use Rattle.std.specs.List.{range_with_len, sum_by}
use Rattle.std.proofs.Math.Nat.{mul-le-mul_left}
use Rattle.std.proofs.lemmas.Grind.{same_number_lists}
use Rattle.std.proofs.lemmas.List.FromFn.{length-map-range_with_len, get_or-map-range_with_len}
use Rattle.std.proofs.lemmas.List.{length-take}
use Rattle.std.proofs.lemmas.List.Sums.{sum_by-cons, sum_by_more}
use Rattle.task_lives.specs.declared.life.Ending.TheVariants.{Retired}
use Rattle.task_lives.specs.declared.life.Life.{Life}
use Rattle.run_picture.specs.Stretches.{counted, share_of}
use Rattle.run_picture.specs.Adding.{AddsLife, HaveRoom}
use Rattle.run_picture.proofs.Overlaps.{counted-le}

abbrev pub shares : (len : ℕ) → List Life → (parts : ℕ) → List ℕ
shares len lives parts = map (share_of len lives) (range_with_len 0 parts)

pub share_at : (len : ℕ) (lives : List Life) (parts k : ℕ) → k < parts → get_or (shares len lives parts) k 0 ≡ share_of len lives k
share_at len lives parts k within = get_or-map-range_with_len (share_of len lives) 0 parts k k 0 within (omega arith)

pub length-shares : (len : ℕ) (lives : List Life) (parts : ℕ) → length (shares len lives parts) ≡ parts
length-shares len lives parts = length-map-range_with_len (share_of len lives) 0 parts

none_shared : (len first parts : ℕ) → replicate parts 0 ≡ map (share_of len []) (range_with_len first parts)
none_shared len first zero = refl
none_shared len first (suc n) = ap (λ ns. 0 ∷ ns) (none_shared len (first + 1) n)

pub no_shares : (len parts : ℕ) → replicate parts 0 ≡ shares len [] parts
no_shares len parts = none_shared len 0 parts

pub share-le : (len : ℕ) (lives : List Life) (k : ℕ) → share_of len lives k ≤ length lives * len
share-le len [] k = omega arith
share-le len (life ∷ lives) k =
    let here = counted-le len k life in
    let rest = share-le len lives k in
    let both = sum_by-cons (counted len k) life lives in
    omega (arith, here, rest, both)

pub life_more : (len parts : ℕ) (lives : List Life) (i : ℕ) (d : Life) (old new : List ℕ) → i < length lives → old ≡ shares len (take i lives) parts → AddsLife len (get_or lives i d) old new → new ≡ shares len (take (i + 1) lives) parts
life_more len parts lives i d old new within is adds =
    let long : length old ≡ parts = ap (λ xs. length xs) is ∙ length-shares len (take i lives) parts in
    let all : length (shares len (take (i + 1) lives) parts) ≡ parts = length-shares len (take (i + 1) lives) parts in
    same_number_lists new (shares len (take (i + 1) lives) parts) (adds.same ∙ long ∙ sym all)
    (λ k hk.
    let low : k < length old = omega (arith, hk, adds.same) in
    let below : k < parts = omega (arith, low, long) in
    adds.each k low
    ∙ ap (λ n. n + counted len k (get_or lives i d)) (ap (λ xs. get_or xs k 0) is ∙ share_at len (take i lives) parts k below)
    ∙ sym (sum_by_more (counted len k) lives i d within)
    ∙ sym (share_at len (take (i + 1) lives) parts k below))

small_product : (n len : ℕ) → n ≤ 1000000 → len ≤ 4000 → n * len ≤ 4000000000
small_product n len few short =
    let low : n * len ≤ n * 4000 = mul-le-mul_left n short in
    omega (arith, low, few)

pub share_small : (len : ℕ) (lives : List Life) (k : ℕ) → length lives ≤ 1000000 → len ≤ 4000 → share_of len lives k ≤ 4000000000
share_small len lives k few short =
    let most = share-le len lives k in
    let low = small_product (length lives) len few short in
    omega (arith, most, low)

pub room_for_more : (len parts : ℕ) (lives : List Life) (i : ℕ) (xs : List ℕ) → length lives ≤ 1000000 → len ≤ 4000 → xs ≡ shares len (take i lives) parts → HaveRoom (len + len) xs
room_for_more len parts lives i xs few short is k within =
    let low : k < parts = omega (arith, within, ap (λ ys. length ys) is ∙ length-shares len (take i lives) parts) in
    let here : get_or xs k 0 ≡ share_of len (take i lives) k = ap (λ ys. get_or ys k 0) is ∙ share_at len (take i lives) parts k low in
    let fewer = length-take i lives in
    let most = share_small len (take i lives) k (omega (arith, fewer, few)) short in
    omega (arith, here, most, short)

-- a life that stands for a place where there is none
abbrev pub no_life : Life
no_life = record { task = 0; unit = 0; first = 0; last = 0; executed = 0; ending = Retired }
