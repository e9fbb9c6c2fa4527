-- The reads of a plain run's first steps begin those of more steps.
use Rattle.demonstration.proofs.Imports.{◌≡◌, ℕ, zero, suc, ◌+◌, ◌-◌, ◌<◌, ◌≤◌, Some, List, [], ◌∷◌, ◌++◌, length, slice_get, refl, sym, ap, ◌∙◌, arith, append_assoc, append-nil, length-append, Input, plain, reads, reads_when, Outcome, Running, Halted, Trapped, Read}
use Rattle.mips_plain.specs.PlainMachine.{State}

pub reads_zero : (i : Input) → reads i 0 ≡ []
unfolding reads
reads_zero i = refl

pub reads_next : (i : Input) (n : ℕ) → reads i (suc n) ≡ reads i n ++ reads_when (plain i n).outcome i (plain i n)
unfolding reads
reads_next i n = refl

at_most_one : (o : Outcome) (i : Input) (s : State) → length (reads_when o i s) ≤ 1
at_most_one Running i s = omega arith
at_most_one Halted i s = omega arith
at_most_one (Trapped trap) i s = omega arith

-- `n` steps read at most `n` times
pub few_reads : (i : Input) (n : ℕ) → length (reads i n) ≤ n
few_reads i zero = omega (arith, ap (λ (xs : List Read). length xs) (reads_zero i))
few_reads i (suc n) =
    let last = reads_when (plain i n).outcome i (plain i n) in
    let long : length (reads i (suc n)) ≡ length (reads i n) + length last =
    ap (λ (xs : List Read). length xs) (reads_next i n) ∙ length-append (reads i n) last in
    let few = few_reads i n in
    let most = at_most_one (plain i n).outcome i (plain i n) in omega arith

-- more steps add at most one read each
pub reads_more : (i : Input) (m d n : ℕ) → n ≡ d + m → (rest : List Read) × (reads i n ≡ reads i m ++ rest) × (length rest ≤ d)
reads_more i m zero n is =
    let same : n ≡ m = omega arith in
    ([], ap (reads i) same ∙ sym (append-nil (reads i m)), (let few : 0 ≤ 0 = omega arith in few))
reads_more i m (suc d) n is =
    let step : n ≡ suc (d + m) = omega arith in
    let before = reads_more i m d (d + m) refl in
    let last = reads_when (plain i (d + m)).outcome i (plain i (d + m)) in
    let few = at_most_one (plain i (d + m)).outcome i (plain i (d + m)) in (
      before.0 ++ last,
      ap (reads i) step ∙ reads_next i (d + m) ∙ ap (λ (xs : List Read). xs ++ last) before.1 ∙ append_assoc (reads i m) before.0 last,
      let most = before.2 in omega (arith, length-append before.0 last),
    )

get_front : {X : Type 0} (xs ys : List X) (k : ℕ) → k < length xs → slice_get (xs ++ ys) k ≡ slice_get xs k
get_front [] ys k below = absurd (omega arith)
get_front (x ∷ xs) ys zero below = refl
get_front (x ∷ xs) ys (suc k) below = get_front xs ys k (omega arith)

pub get_below : {X : Type 0} (xs : List X) (k : ℕ) (x : X) → slice_get xs k ≡ Some x → k < length xs
get_below [] k x e = absurd (cc)
get_below (y ∷ ys) zero x e = omega arith
get_below (y ∷ ys) (suc k) x e = let below = get_below ys k x e in omega arith

-- where no step of a run's first n comes after its end, its reads begin with those of fewer steps
pub read_early : (i : Input) (n k : ℕ) → k < n → length (reads i n) ≡ n → slice_get (reads i (suc k)) k ≡ slice_get (reads i n) k
read_early i n k below full =
    let d = n - suc k in
    let is : n ≡ d + suc k = omega arith in
    let more = reads_more i (suc k) d n is in
    let joined : reads i n ≡ reads i (suc k) ++ more.0 = more.1 in
    let long : length (reads i n) ≡ length (reads i (suc k)) + length more.0 = ap length joined ∙ length-append (reads i (suc k)) more.0 in
    let few = more.2 in
    let within : k < length (reads i (suc k)) = omega arith in
    sym (ap (λ (xs : List Read). slice_get xs k) joined ∙ get_front (reads i (suc k)) more.0 k within)
