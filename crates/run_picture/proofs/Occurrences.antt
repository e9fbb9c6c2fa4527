-- How often numbers are there: one number more adds one to its count, and to no other.
use Rattle.std.proofs.Common.{◌≡◌, ◌≢◌, ℕ, zero, suc, ◌+◌, ◌*◌, ◌<◌, ◌≤◌, Bool, true, false, cond, ltb, List, [], ◌∷◌, length, map, take, get_or, set, replicate, refl, sym, ap, ◌∙◌, arith, inl, inr}
use Rattle.std.specs.Prelude.{nat_eq}
use Rattle.std.specs.List.{range_with_len}
use Rattle.std.proofs.Math.ListN.{length-set}
use Rattle.std.proofs.lemmas.Bool.{lt-ltb}
use Rattle.std.proofs.lemmas.Bool.Decides.{eqb_tells}
use Rattle.std.proofs.lemmas.Grind.{same_number_lists}
use Rattle.std.proofs.lemmas.List.{get_or-set_same, get_or-set_other, length-take}
use Rattle.std.proofs.lemmas.List.FromFn.{length-map-range_with_len, get_or-map-range_with_len}
use Rattle.std.proofs.lemmas.List.Sums.{count_by-le-length, count_by_more_no, count_by_more_yes}
use Rattle.task_lives.specs.declared.life.Life.{Life}
use Rattle.machine_model.specs.declared.event.Event.{Event}
use Rattle.run_picture.specs.declared.shape.StretchTally.{StretchTally}
use Rattle.run_picture.specs.Stretches.{end_part, executed_from, occurrences, tally_in}
use Rattle.run_picture.specs.Adding.{HaveRoom, tally_by, with_one_more}

-- the counts of the numbers below a limit
abbrev pub counts : (numbers : List ℕ) → (limit : ℕ) → List ℕ
counts numbers limit = map (occurrences numbers) (range_with_len 0 limit)

count_at : (numbers : List ℕ) (limit k : ℕ) → k < limit → get_or (counts numbers limit) k 0 ≡ occurrences numbers k
count_at numbers limit k within = get_or-map-range_with_len (occurrences numbers) 0 limit k k 0 within (omega arith)

pub length-counts : (numbers : List ℕ) (limit : ℕ) → length (counts numbers limit) ≡ limit
length-counts numbers limit = length-map-range_with_len (occurrences numbers) 0 limit

none_counted : (first limit : ℕ) → replicate limit 0 ≡ map (occurrences []) (range_with_len first limit)
none_counted first zero = refl
none_counted first (suc n) = ap (λ ns. 0 ∷ ns) (none_counted (first + 1) n)

pub no_counts : (limit : ℕ) → replicate limit 0 ≡ counts [] limit
no_counts limit = none_counted 0 limit

-- a write at one place, made or not

long_by : (b : Bool) (xs : List ℕ) (p v : ℕ) → length (cond b (set xs p v) xs) ≡ length xs
long_by true xs p v = length-set xs p v
long_by false xs p v = refl

kept_by : (b : Bool) (xs : List ℕ) (p v k : ℕ) → k ≢ p → get_or (cond b (set xs p v) xs) k 0 ≡ get_or xs k 0
kept_by true xs p v k h = get_or-set_other xs p k v 0 h
kept_by false xs p v k h = refl

changed_by : (b : Bool) (xs : List ℕ) (p v : ℕ) → b ≡ true → p < length xs → get_or (cond b (set xs p v) xs) p 0 ≡ v
changed_by b xs p v is within = ap (λ (t : Bool). get_or (cond t (set xs p v) xs) p 0) is ∙ get_or-set_same xs p v 0 within

length-with_one_more : (number : ℕ) (xs : List ℕ) → length (with_one_more number xs) ≡ length xs
length-with_one_more number xs = long_by (ltb number (length xs)) xs number (get_or xs number 0 + 1)

-- the count of a number, with one number more
count_more : (limit : ℕ) (numbers : List ℕ) (i k : ℕ) (old : List ℕ) → i < length numbers → old ≡ counts (take i numbers) limit → k < limit → k < length old
    → get_or (with_one_more (get_or numbers i 0) old) k 0 ≡ occurrences (take (i + 1) numbers) k
count_more limit numbers i k old within is below low =
    let number = get_or numbers i 0 in
    let before : get_or old k 0 ≡ occurrences (take i numbers) k =
    ap (λ (xs : List ℕ). get_or xs k 0) is ∙ count_at (take i numbers) limit k below in
    elim (eqb_tells number k) [
      | inl here ↦
          let inside : number < length old = omega (arith, here.1, low) in
          ap (λ (n : ℕ). get_or (with_one_more number old) n 0) (sym here.1)
          ∙ changed_by (ltb number (length old)) old number (get_or old number 0 + 1) (lt-ltb number (length old) inside) inside
          ∙ ap (λ (n : ℕ). get_or old n 0 + 1) here.1
          ∙ ap (λ (n : ℕ). n + 1) before
          ∙ sym (count_by_more_yes (λ (n : ℕ). nat_eq n k) numbers i 0 within here.0)
      | inr other ↦
          kept_by (ltb number (length old)) old number (get_or old number 0 + 1) k (λ e. other.1 (sym e))
          ∙ before
          ∙ sym (count_by_more_no (λ (n : ℕ). nat_eq n k) numbers i 0 within other.0)
    ]

pub one_more : (limit : ℕ) (numbers : List ℕ) (i : ℕ) (old new : List ℕ) → i < length numbers → old ≡ counts (take i numbers) limit
    → new ≡ with_one_more (get_or numbers i 0) old → new ≡ counts (take (i + 1) numbers) limit
one_more limit numbers i old new within is adds =
    let long : length old ≡ limit = ap (λ (xs : List ℕ). length xs) is ∙ length-counts (take i numbers) limit in
    let all : length (counts (take (i + 1) numbers) limit) ≡ limit = length-counts (take (i + 1) numbers) limit in
    let same : length new ≡ length old = ap (λ (xs : List ℕ). length xs) adds ∙ length-with_one_more (get_or numbers i 0) old in
    same_number_lists new (counts (take (i + 1) numbers) limit) (same ∙ long ∙ sym all)
    (λ k hk.
    let low : k < length old = omega (arith, hk, same) in
    let below : k < limit = omega (arith, low, long) in
    ap (λ (xs : List ℕ). get_or xs k 0) adds
    ∙ count_more limit numbers i k old within is below low
    ∙ sym (count_at (take (i + 1) numbers) limit k below))

-- no number is there more often than there are numbers
pub room_for_one : (limit : ℕ) (numbers : List ℕ) (i : ℕ) (xs : List ℕ) → length numbers ≤ 1000000 → xs ≡ counts (take i numbers) limit → HaveRoom 1 xs
room_for_one limit numbers i xs few is k within =
    let low : k < limit = omega (arith, within, ap (λ (ys : List ℕ). length ys) is ∙ length-counts (take i numbers) limit) in
    let here : get_or xs k 0 ≡ occurrences (take i numbers) k = ap (λ (ys : List ℕ). get_or ys k 0) is ∙ count_at (take i numbers) limit k low in
    let most = count_by-le-length (λ (n : ℕ). nat_eq n k) (take i numbers) in
    let fewer = length-take i numbers in
    omega (arith, here, most, fewer, few)

-- what happens in a stretch, by the counts
pub tally_same : (len : ℕ) (columns : List ℕ) (history : List Event) (lives : List Life) (s : ℕ) (executed ended : List ℕ) → s < 290
    → executed ≡ counts (executed_from len columns 0 history) 290 → ended ≡ counts (map (end_part len) lives) 1160
    → tally_by executed ended s ≡ tally_in len columns history lives s
tally_same len columns history lives s executed ended low is_executed is_ended =
    let stretches = executed_from len columns 0 history in
    let parts = map (end_part len) lives in
    let here : (k : ℕ) → k < 1160 → get_or ended k 0 ≡ occurrences parts k =
    λ k within. ap (λ (xs : List ℕ). get_or xs k 0) is_ended ∙ count_at parts 1160 k within in
    let one : get_or executed s 0 ≡ occurrences stretches s = ap (λ (xs : List ℕ). get_or xs s 0) is_executed ∙ count_at stretches 290 s low in
    let two = here (s * 4) (omega (arith, low)) in
    let three = here (s * 4 + 1) (omega (arith, low)) in
    let four = here (s * 4 + 2) (omega (arith, low)) in
    let told : ℕ → ℕ → ℕ → ℕ → StretchTally = λ a b d e. record { executed = a; retired = b; squashed = d; dropped = e } in
    (λ i. told (one i) (two i) (three i) (four i))
