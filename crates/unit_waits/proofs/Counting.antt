-- Waits counted one by one.
use Rattle.std.proofs.Common.{◌≡◌, ℕ, zero, suc, ◌+◌, ◌^◌, ◌<◌, ◌≤◌, Bool, true, false, cond, List, [], ◌∷◌, ◌++◌, length, get_or, refl, sym, ap, ◌∙◌, arith, Some, None}
use Rattle.std.specs.Prelude.{slice_set}
use Rattle.std.specs.List.{fold, position, position_or_len}
use Rattle.std.proofs.lemmas.Grind.{common_steps}
use Rattle.std.proofs.lemmas.List.Sums.{fails_before_first, fold-append, get_or-le-sum_by, sum_by-cons}
use Rattle.std.proofs.lemmas.List.Quantifiers.{position-Some}
use Rattle.unit_waits.specs.declared.count.Count.{Count}
use Rattle.unit_waits.specs.declared.waiting.Waiting.{Waiting}
use Rattle.unit_waits.specs.Counts.{all_waits, counted, counts_of, is_alike}

abbrev pub one : Waiting → Count
one w = record { first = w; waits = 1 }

abbrev pub with_one : Count → Count
with_one c = record c { waits = c.waits + 1 }

counted_by : (c : Count) (cs : List Count) (w : Waiting) (b : Bool) → is_alike c.first w ≡ b → counted (c ∷ cs) w ≡ cond b (with_one c ∷ cs) (c ∷ counted cs w)
counted_by c cs w b is = ap (λ (x : Bool). cond x (with_one c ∷ cs) (c ∷ counted cs w)) is

-- at the index of the first like it
counted_at : (cs : List Count) (w : Waiting) (d : Count) (i : ℕ) → i < length cs → is_alike (get_or cs i d).first w ≡ true
    → ((k : ℕ) → k < i → is_alike (get_or cs k d).first w ≡ false) → slice_set cs i (with_one (get_or cs i d)) ≡ counted cs w
counted_at [] w d i within at before = absurd (omega (arith, within))
counted_at (c ∷ cs) w d zero within at before = sym (counted_by c cs w true at)
counted_at (c ∷ cs) w d (suc i) within at before =
    ap (λ (xs : List Count). c ∷ xs) (counted_at cs w d i (omega (arith, within)) at (λ k lt. before (suc k) (omega (arith, lt))))
    ∙ sym (counted_by c cs w false (before 0 (omega arith)))

pub counted_found : (cs : List Count) (w : Waiting) (i : ℕ) (c : Count) → position (λ x. is_alike x.first w) cs ≡ Some i → c ≡ get_or cs i c → slice_set cs i (with_one c) ≡ counted cs w
counted_found cs w i c found is =
    let first = position-Some (λ (x : Count). is_alike x.first w) cs i c found in
    ap (λ (x : Count). slice_set cs i (with_one x)) is ∙ counted_at cs w c i first.0 first.1 first.2

-- after all others
counted_last : (cs : List Count) (w : Waiting) (d : Count) → ((k : ℕ) → k < length cs → is_alike (get_or cs k d).first w ≡ false) → cs ++ one w ∷ [] ≡ counted cs w
counted_last [] w d none = refl
counted_last (c ∷ cs) w d none =
    ap (λ (xs : List Count). c ∷ xs) (counted_last cs w d (λ k lt. none (suc k) (omega (arith, lt))))
    ∙ sym (counted_by c cs w false (none 0 (omega arith)))

pub counted_new : (cs : List Count) (w : Waiting) → position (λ x. is_alike x.first w) cs ≡ None → cs ++ one w ∷ [] ≡ counted cs w
counted_new cs w none =
    let all : length cs ≤ position_or_len (λ x. is_alike x.first w) cs = grind (arith, common_steps) in
    counted_last cs w (one w) (λ k lt. fails_before_first (λ (x : Count). is_alike x.first w) cs k (one w) (omega arith))

-- all counts together are as many as the waits

all_with : (c : Count) (cs : List Count) → all_waits (c ∷ cs) ≡ c.waits + all_waits cs
all_with c cs = sum_by-cons (λ (x : Count). x.waits) c cs

one_more_by : (b : Bool) (c : Count) (cs : List Count) (w : Waiting) → all_waits (counted cs w) ≡ all_waits cs + 1
    → all_waits (cond b (with_one c ∷ cs) (c ∷ counted cs w)) ≡ all_waits (c ∷ cs) + 1
one_more_by true c cs w rest = omega (arith, all_with (with_one c) cs, all_with c cs)
one_more_by false c cs w rest = omega (arith, rest, all_with c (counted cs w), all_with c cs)

one_more : (cs : List Count) (w : Waiting) → all_waits (counted cs w) ≡ all_waits cs + 1
one_more [] w = refl
one_more (c ∷ cs) w = one_more_by (is_alike c.first w) c cs w (one_more cs w)

pub all_more : (cs : List Count) (ws : List Waiting) → all_waits (fold counted cs ws) ≡ all_waits cs + length ws
all_more cs [] = omega arith
all_more cs (w ∷ ws) =
    let rest = all_more (counted cs w) ws in
    let here = one_more cs w in
    omega (arith, rest, here)

pub all_counted : (ws : List Waiting) → all_waits (counts_of ws) ≡ length ws
all_counted ws = let all = all_more [] ws in omega (arith, all)

-- a count is one of them
pub room_found : (cs : List Count) (w : Waiting) (i : ℕ) (c : Count) → position (λ x. is_alike x.first w) cs ≡ Some i → c ≡ get_or cs i c → all_waits cs + 1 < 2 ^ 32 → c.waits + 1 < 2 ^ 32
room_found cs w i c found is few =
    let first = position-Some (λ (x : Count). is_alike x.first w) cs i c found in
    let most = get_or-le-sum_by (λ (x : Count). x.waits) cs i c first.0 in
    let same : c.waits ≡ (get_or cs i c).waits = ap (λ (x : Count). x.waits) is in
    omega (arith, most, same, few)

-- the counts of some waits and then others
pub counts_on : (before more : List Waiting) → counts_of (before ++ more) ≡ fold counted (counts_of before) more
counts_on before more = fold-append counted [] before more
