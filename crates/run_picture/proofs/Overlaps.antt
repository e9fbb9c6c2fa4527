-- A life has events only in the stretches from that of its first event to that of its last one; what it counts
-- for a part there is at most a stretch.
use Rattle.std.proofs.Common.{◌≡◌, ◌≢◌, ℕ, ◌+◌, ◌-◌, ◌*◌, ◌/◌, ◌%◌, ◌<◌, ◌≤◌, ◌^◌, Bool, true, false, cond, eqb, ltb, List, length, get_or, set, refl, sym, ap, ◌∙◌, arith, ◌&&◌, inl, inr, eq-eqb}
use Rattle.std.proofs.Math.Nat.{mul-le-mul_left}
use Rattle.std.specs.Prelude.{min, max}
use Rattle.std.proofs.lemmas.Bool.{ltb-true, ltb-false, lt-ltb, ne_eqb}
use Rattle.std.proofs.lemmas.Bool.Decides.{eqb_tells}
use Rattle.std.proofs.lemmas.List.{get_or-set_same, get_or-set_other}
use Rattle.std.proofs.Math.ListN.{length-set}
use Rattle.task_lives.specs.declared.life.Ending.{Ending}
use Rattle.task_lives.specs.declared.life.Ending.TheVariants.{Retired, Squashed, Dropped, Unfinished}
use Rattle.task_lives.specs.declared.life.Life.{Life}
use Rattle.run_picture.specs.Stretches.{counted, overlap, part_of, stretch_at, unit_at}
use Rattle.run_picture.specs.Adding.{AddsLife, HaveRoom, part_with, with_overlap}

-- the sums in an overlap, over plain numbers
abbrev pub meet : (first behind begin len : ℕ) → ℕ
meet first behind begin len = min behind (begin + len) - max first begin

pub meet-le : (first behind begin len : ℕ) → meet first behind begin len ≤ len
meet-le first behind begin len = omega arith

meet_before : (first behind begin len : ℕ) → begin + len ≤ first → meet first behind begin len ≡ 0
meet_before first behind begin len h = omega (arith, h)

meet_behind : (first behind begin len : ℕ) → behind ≤ begin → meet first behind begin len ≡ 0
meet_behind first behind begin len h = omega (arith, h)

ends_before : (s len first : ℕ) → 0 < len → s < first / len → s * len + len ≤ first
ends_before s len first some h =
    let low : len * (s + 1) ≤ len * (first / len) = mul-le-mul_left len (omega (arith, h)) in
    omega (arith, low, some)

begins_behind : (s len last : ℕ) → 0 < len → last / len + 1 ≤ s → last + 1 ≤ s * len
begins_behind s len last some h =
    let high : len * (last / len + 1) ≤ len * s = mul-le-mul_left len h in
    omega (arith, high, some)

pub none_before : (len s : ℕ) (life : Life) → 0 < len → s < life.first / len → overlap len s life ≡ 0
none_before len s life some h = meet_before life.first (life.last + 1) (s * len) len (ends_before s len life.first some h)

pub none_behind : (len s : ℕ) (life : Life) → 0 < len → life.last / len + 1 ≤ s → overlap len s life ≡ 0
none_behind len s life some h = meet_behind life.first (life.last + 1) (s * len) len (begins_behind s len life.last some h)

zero_if : (b : Bool) (n : ℕ) → n ≡ 0 → cond b n 0 ≡ 0
zero_if true n h = h
zero_if false n h = refl

le_if : (b : Bool) (n m : ℕ) → n ≤ m → cond b n 0 ≤ m
le_if true n m h = h
le_if false n m h = omega arith

pub counted-le : (len k : ℕ) (life : Life) → counted len k life ≤ len
counted-le len k life = le_if _ (overlap len (stretch_at k) life) len (meet-le life.first (life.last + 1) (stretch_at k * len) len)

pub uncounted : (len k : ℕ) (life : Life) → overlap len (stretch_at k) life ≡ 0 → counted len k life ≡ 0
uncounted len k life h = zero_if _ (overlap len (stretch_at k) life) h

-- a part is that of its unit, its stretch and its ending

part_small : (e : Ending) → part_of e < 4
part_small Retired = omega arith
part_small Squashed = omega arith
part_small Dropped = omega arith
part_small Unfinished = omega arith

unit_back : (u s e : ℕ) → s < 290 → e < 4 → ((u * 290 + s) * 4 + e) / 1160 ≡ u
unit_back u s e hs he = omega (arith, hs, he)

stretch_back : (u s e : ℕ) → s < 290 → e < 4 → ((u * 290 + s) * 4 + e) / 4 % 290 ≡ s
stretch_back u s e hs he = omega (arith, hs, he)

ending_back : (u s e : ℕ) → e < 4 → ((u * 290 + s) * 4 + e) % 4 ≡ e
ending_back u s e he = omega (arith, he)

part_forth : (k u e : ℕ) → k / 1160 ≡ u → k % 4 ≡ e → k ≡ (u * 290 + k / 4 % 290) * 4 + e
part_forth k u e hu he = omega (arith, hu, he)

-- a write at one place, made or not

kept : (a b : Bool) (xs : List ℕ) (p v k : ℕ) → (a ≡ true → k ≢ p) → get_or (cond a (cond b (set xs p v) xs) xs) k 0 ≡ get_or xs k 0
kept true true xs p v k h = get_or-set_other xs p k v 0 (h refl)
kept true false xs p v k h = refl
kept false b xs p v k h = refl

changed : (a b : Bool) (xs : List ℕ) (p v : ℕ) → a ≡ true → b ≡ true → p < length xs → get_or (cond a (cond b (set xs p v) xs) xs) p 0 ≡ v
changed a b xs p v ha hb within =
    ap (λ t. get_or (cond t (cond b (set xs p v) xs) xs) p 0) ha
    ∙ ap (λ t. get_or (cond t (set xs p v) xs) p 0) hb
    ∙ get_or-set_same xs p v 0 within

long_as : (a b : Bool) (xs : List ℕ) (p v : ℕ) → length (cond a (cond b (set xs p v) xs) xs) ≡ length xs
long_as true true xs p v = length-set xs p v
long_as true false xs p v = refl
long_as false b xs p v = refl

pub length-with_overlap : (len s : ℕ) (life : Life) (xs : List ℕ) → length (with_overlap len s life xs) ≡ length xs
length-with_overlap len s life xs =
    long_as (ltb s 290) (ltb (part_with s life) (length xs)) xs (part_with s life) (get_or xs (part_with s life) 0 + overlap len s life)

-- a part of another stretch, or of another unit or ending, keeps its share
pub kept_other : (len s : ℕ) (life : Life) (xs : List ℕ) (k : ℕ) → (s < 290 → k ≢ part_with s life) → get_or (with_overlap len s life xs) k 0 ≡ get_or xs k 0
kept_other len s life xs k other =
    kept (ltb s 290) (ltb (part_with s life) (length xs)) xs (part_with s life) (get_or xs (part_with s life) 0 + overlap len s life) k
    (λ is. other (ltb-true s 290 is))

other_stretch : (s : ℕ) (life : Life) (k : ℕ) → stretch_at k ≢ s → s < 290 → k ≢ part_with s life
other_stretch s life k differs hs same =
    differs (ap (λ n. n / 4 % 290) same ∙ stretch_back life.unit s (part_of life.ending) hs (part_small life.ending))

other_life : (s : ℕ) (life : Life) (k : ℕ) → ((unit_at k ≡ life.unit) → (k % 4 ≡ part_of life.ending) → ⊥) → s < 290 → k ≢ part_with s life
other_life s life k differs hs same =
    differs (ap (λ n. n / 1160) same ∙ unit_back life.unit s (part_of life.ending) hs (part_small life.ending))
    (ap (λ n. n % 4) same ∙ ending_back life.unit s (part_of life.ending) (part_small life.ending))

-- the life counts for a part of its unit and its ending, and for no other
counts : (len k : ℕ) (life : Life) → unit_at k ≡ life.unit → k % 4 ≡ part_of life.ending → counted len k life ≡ overlap len (stretch_at k) life
counts len k life hu he =
    ap (λ a. cond (a && eqb (k % 4) (part_of life.ending)) (overlap len (stretch_at k) life) 0) (eq-eqb (unit_at k) life.unit hu)
    ∙ ap (λ a. cond a (overlap len (stretch_at k) life) 0) (eq-eqb (k % 4) (part_of life.ending) he)

no_unit : (len k : ℕ) (life : Life) → unit_at k ≢ life.unit → counted len k life ≡ 0
no_unit len k life hu =
    ap (λ a. cond (a && eqb (k % 4) (part_of life.ending)) (overlap len (stretch_at k) life) 0) (ne_eqb (unit_at k) life.unit hu)

no_ending : (len k : ℕ) (life : Life) → unit_at k ≡ life.unit → k % 4 ≢ part_of life.ending → counted len k life ≡ 0
no_ending len k life hu he =
    ap (λ a. cond (a && eqb (k % 4) (part_of life.ending)) (overlap len (stretch_at k) life) 0) (eq-eqb (unit_at k) life.unit hu)
    ∙ ap (λ a. cond a (overlap len (stretch_at k) life) 0) (ne_eqb (k % 4) (part_of life.ending) he)

abbrev Adds : (len : ℕ) → Life → List ℕ → List ℕ → ℕ → Type 0
Adds len life xs new k = get_or new k 0 ≡ get_or xs k 0 + counted len k life

nothing_added : (len s : ℕ) (life : Life) (xs : List ℕ) (k : ℕ) → counted len k life ≡ 0 → (s < 290 → k ≢ part_with s life) → Adds len life xs (with_overlap len s life xs) k
nothing_added len s life xs k none other =
    let same = kept_other len s life xs k other in
    omega (arith, none, same)

stretch_small : (k : ℕ) → stretch_at k < 290
stretch_small k = omega arith

all_added : (len s : ℕ) (life : Life) (xs : List ℕ) (k : ℕ) → k < length xs → stretch_at k ≡ s → unit_at k ≡ life.unit → k % 4 ≡ part_of life.ending → Adds len life xs (with_overlap len s life xs) k
all_added len s life xs k within hs hu he =
    let here : k ≡ part_with s life = part_forth k life.unit (part_of life.ending) hu he ∙ ap (λ t. (life.unit * 290 + t) * 4 + part_of life.ending) hs in
    let low : s < 290 = omega (arith, stretch_small k, hs) in
    let inside : part_with s life < length xs = omega (arith, here, within) in
    let new = changed (ltb s 290) (ltb (part_with s life) (length xs)) xs (part_with s life) (get_or xs (part_with s life) 0 + overlap len s life)
    (lt-ltb s 290 low) (lt-ltb (part_with s life) (length xs) inside) inside in
    ap (λ n. get_or (with_overlap len s life xs) n 0) here
    ∙ new
    ∙ ap (λ n. get_or xs n 0 + overlap len s life) (sym here)
    ∙ ap (λ t. get_or xs k 0 + overlap len t life) (sym hs)
    ∙ ap (λ n. get_or xs k 0 + n) (sym (counts len k life hu he))

-- what a stretch adds to a part of it
pub stretch_added : (len s : ℕ) (life : Life) (xs : List ℕ) (k : ℕ) → k < length xs → stretch_at k ≡ s → Adds len life xs (with_overlap len s life xs) k
stretch_added len s life xs k within hs =
    elim (eqb_tells (unit_at k) life.unit) [
      | inl hu ↦ elim (eqb_tells (k % 4) (part_of life.ending)) [
        | inl he ↦ all_added len s life xs k within hs hu.1 he.1
        | inr he ↦ nothing_added len s life xs k (no_ending len k life hu.1 he.1) (other_life s life k (λ _ e. he.1 e))
      ]
      | inr hu ↦ nothing_added len s life xs k (no_unit len k life hu.1) (other_life s life k (λ u _. hu.1 u))
    ]

-- and to a part of any other
pub stretch_kept : (len s : ℕ) (life : Life) (xs : List ℕ) (k : ℕ) → stretch_at k ≢ s → get_or (with_overlap len s life xs) k 0 ≡ get_or xs k 0
stretch_kept len s life xs k differs = kept_other len s life xs k (other_stretch s life k differs)

-- a stretch more: the parts of the stretches up to it have what the life counts for them, the others are as they
-- were

abbrev pub Added : (len s : ℕ) → Life → List ℕ → List ℕ → Type 0
Added len s life ys xs = (k : ℕ) → k < length ys → stretch_at k < s → get_or xs k 0 ≡ get_or ys k 0 + counted len k life

abbrev pub Kept : (s : ℕ) → List ℕ → List ℕ → Type 0
Kept s ys xs = (k : ℕ) → k < length ys → s ≤ stretch_at k → get_or xs k 0 ≡ get_or ys k 0

pub step_added : (len s : ℕ) (life : Life) (ys xs : List ℕ) → length xs ≡ length ys → Added len s life ys xs → Kept s ys xs → Added len (s + 1) life ys (with_overlap len s life xs)
step_added len s life ys xs same added kept k within below =
    elim (eqb_tells (stretch_at k) s) [
      | inl here ↦ stretch_added len s life xs k (omega (arith, same, within)) here.1
          ∙ ap (λ n. n + counted len k life) (kept k within (omega (arith, here.1)))
      | inr here ↦ stretch_kept len s life xs k here.1 ∙ added k within (omega (arith, here.1, below))
    ]

pub step_kept : (len s : ℕ) (life : Life) (ys xs : List ℕ) → Kept s ys xs → Kept (s + 1) ys (with_overlap len s life xs)
step_kept len s life ys xs kept k within above =
    let differs : stretch_at k ≢ s = λ e. absurd (omega (arith, e, above)) in
    stretch_kept len s life xs k differs ∙ kept k within (omega (arith, above))

pub first_added : (len : ℕ) (life : Life) (ys : List ℕ) → 0 < len → Added len (life.first / len) life ys ys
first_added len life ys some k within below =
    let none = uncounted len k life (none_before len (stretch_at k) life some below) in
    omega (arith, none)

pub all_counted : (len s : ℕ) (life : Life) (ys xs : List ℕ) → 0 < len → length xs ≡ length ys → Added len s life ys xs → Kept s ys xs → min (life.last / len) 289 + 1 ≤ s → AddsLife len life ys xs
all_counted len s life ys xs some same added kept ends = record {
  same = same;
  each = λ k within.
      (elim (ltb (stretch_at k) s) as (λ b. ltb (stretch_at k) s ≡ b → get_or xs k 0 ≡ get_or ys k 0 + counted len k life) [
        | true ↦ λ is. added k within (ltb-true (stretch_at k) s is)
        | false ↦ λ is.
            let above = ltb-false (stretch_at k) s is in
            let none = uncounted len k life (none_behind len (stretch_at k) life some (omega (arith, above, ends, stretch_small k))) in
            let same_there = kept k within above in
            omega (arith, none, same_there)
      ]) refl;
}

-- so each share has at most a stretch more
pub room_left : (len s : ℕ) (life : Life) (ys xs : List ℕ) → length xs ≡ length ys → Added len s life ys xs → Kept s ys xs → HaveRoom (len + len) ys → HaveRoom len xs
room_left len s life ys xs same added kept room k within =
    let low : k < length ys = omega (arith, same, within) in
    let at = room k low in
    (elim (ltb (stretch_at k) s) as (λ b. ltb (stretch_at k) s ≡ b → get_or xs k 0 + len < 2 ^ 40) [
      | true ↦ λ is.
          let more = added k low (ltb-true (stretch_at k) s is) in
          let few = counted-le len k life in
          omega (arith, at, more, few)
      | false ↦ λ is.
          let same_there = kept k low (ltb-false (stretch_at k) s is) in
          omega (arith, at, same_there)
    ]) refl
