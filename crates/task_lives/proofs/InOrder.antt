-- What is kept of the tasks at work: the order of their lives, and how many instructions they executed.
use Rattle.std.proofs.Common.{◌≡◌, ◌≢◌, ℕ, zero, suc, ◌+◌, ◌^◌, ◌<◌, ◌≤◌, Bool, true, false, cond, List, [], ◌∷◌, ◌++◌, length, take, get_or, set, eq-eqb, refl, sym, ap, ◌∙◌, subst, arith}
use Rattle.std.specs.Prelude.{nat_eq}
use Rattle.std.proofs.lemmas.Bool.{ne_eqb}
use Rattle.task_lives.specs.declared.following.AtWork.{AtWork}
use Rattle.task_lives.specs.AtWork.{AreWithin, HaveRoom, with_more, more_executed}
use Rattle.task_lives.specs.Following.{AreBehind, AreInOrder}

pub are_within : (n ev : ℕ) (ws : List AtWork) → AreInOrder n ev ws → AreWithin n ws
are_within n ev [] h = tt
are_within n ev (w ∷ ws) h = (h.0, are_within n ev ws h.3)

pub have_room : (n ev count : ℕ) (ws : List AtWork) → ev + count < 2 ^ 32 → AreInOrder n ev ws → HaveRoom count ws
have_room n ev count [] few h = tt
have_room n ev count (w ∷ ws) few h =
    let executed : w.life.executed ≤ ev = h.1 in
    let fits : w.life.executed + count < 2 ^ 32 = omega arith in
    (fits, have_room n ev count ws few h.3)

pub room_at : (count : ℕ) (ws : List AtWork) (i : ℕ) (w : AtWork) → i < length ws → w ≡ get_or ws i w → HaveRoom count ws → w.life.executed + count < 2 ^ 32
room_at count [] i w within is h = absurd (omega arith)
room_at count (v ∷ ws) zero w within is h = subst (λ (x : AtWork). x.life.executed + count < 2 ^ 32) (sym is) h.0
room_at count (v ∷ ws) (suc i) w within is h = room_at count ws i w (omega arith) is h.1

-- more lives, and more events
pub in_order_on : (n m ev later : ℕ) (ws : List AtWork) → n ≤ m → ev ≤ later → AreInOrder n ev ws → AreInOrder m later ws
in_order_on n m ev later [] more on h = tt
in_order_on n m ev later (w ∷ ws) more on h =
    let index : w.index < n = h.0 in
    let executed : w.life.executed ≤ ev = h.1 in
    let here : w.index < m = omega arith in
    let few : w.life.executed ≤ later = omega arith in
    (here, few, h.2, in_order_on n m ev later ws more on h.3)

-- the front of the queue

behind_front : (index k : ℕ) (ws : List AtWork) → AreBehind index ws → AreBehind index (take k ws)
behind_front index zero ws h = tt
behind_front index (suc k) [] h = tt
behind_front index (suc k) (w ∷ ws) h = (h.0, behind_front index k ws h.1)

pub in_order_front : (n ev k : ℕ) (ws : List AtWork) → AreInOrder n ev ws → AreInOrder n ev (take k ws)
in_order_front n ev zero ws h = tt
in_order_front n ev (suc k) [] h = tt
in_order_front n ev (suc k) (w ∷ ws) h = (h.0, h.1, behind_front w.index k ws h.2, in_order_front n ev k ws h.3)

-- one more after the tail, with the next life

behind_push : (index : ℕ) (ws : List AtWork) (w : AtWork) → index < w.index → AreBehind index ws → AreBehind index (ws ++ w ∷ [])
behind_push index [] w last h = (last, tt)
behind_push index (v ∷ ws) w last h = (h.0, behind_push index ws w last h.1)

pub in_order_push : (n ev : ℕ) (ws : List AtWork) (w : AtWork) → w.index ≡ n → w.life.executed ≤ ev → AreInOrder n ev ws → AreInOrder (suc n) ev (ws ++ w ∷ [])
in_order_push n ev [] w is few h =
    let here : w.index < suc n = omega arith in
    (here, few, tt, tt)
in_order_push n ev (v ∷ ws) w is few h =
    let index : v.index < n = h.0 in
    let here : v.index < suc n = omega arith in
    let before : v.index < w.index = omega arith in
    (here, h.1, behind_push v.index ws w before h.2, in_order_push n ev ws w is few h.3)

-- instructions of one of them

pub length-more_executed : (k j count : ℕ) (ws : List AtWork) → length (more_executed k j count ws) ≡ length ws
length-more_executed k j count [] = refl
length-more_executed k j count (w ∷ ws) = ap suc (length-more_executed (suc k) j count ws)

behind_more : (index k j count : ℕ) (ws : List AtWork) → AreBehind index ws → AreBehind index (more_executed k j count ws)
behind_more index k j count [] h = tt
behind_more index k j count (w ∷ ws) h = (h.0, behind_more index (suc k) j count ws h.1)

at_most : (b : Bool) (count : ℕ) → cond b count 0 ≤ count
at_most true count = omega arith
at_most false count = omega arith

pub in_order_more : (n ev k j count : ℕ) (ws : List AtWork) → AreInOrder n ev ws → AreInOrder n (ev + count) (more_executed k j count ws)
in_order_more n ev k j count [] h = tt
in_order_more n ev k j count (w ∷ ws) h =
    let executed : w.life.executed ≤ ev = h.1 in
    let most = at_most (nat_eq j k) count in
    let few : w.life.executed + cond (nat_eq j k) count 0 ≤ ev + count = omega arith in
    (h.0, few, behind_more w.index (suc k) j count ws h.2, in_order_more n ev (suc k) j count ws h.3)

with_none : (w : AtWork) → w ≡ with_more 0 w
with_none w =
    let same : w.life.executed ≡ w.life.executed + 0 = omega arith in
    λ i. record w { life = record (w.life) { executed = same i } }

with_other : (j k count : ℕ) (w : AtWork) → j ≢ k → w ≡ with_more (cond (nat_eq j k) count 0) w
with_other j k count w apart =
    with_none w ∙ ap (λ (b : Bool). with_more (cond b count 0) w) (sym (ne_eqb j k apart))

-- there is none at a position before the first, or after the tail
none_before : (k j count : ℕ) (ws : List AtWork) → j < k → ws ≡ more_executed k j count ws
none_before k j count [] before = refl
none_before k j count (w ∷ ws) before =
    let apart : j ≢ k = λ e. absurd (omega arith) in
    let here = with_other j k count w apart in
    let rest = none_before (suc k) j count ws (omega arith) in
    λ i. here i ∷ rest i

pub none_behind : (k j count : ℕ) (ws : List AtWork) → k + length ws ≤ j → ws ≡ more_executed k j count ws
none_behind k j count [] behind = refl
none_behind k j count (w ∷ ws) behind =
    let apart : j ≢ k = λ e. absurd (omega arith) in
    let here = with_other j k count w apart in
    let rest = none_behind (suc k) j count ws (omega arith) in
    λ i. here i ∷ rest i

-- the one at a position
pub more_executed_at : (k i j count : ℕ) (ws : List AtWork) (w : AtWork) → j ≡ k + i → w ≡ get_or ws i w → set ws i (with_more count w) ≡ more_executed k j count ws
more_executed_at k i j count [] w is here = refl
more_executed_at k zero j count (v ∷ ws) w is here =
    let at : j ≡ k = omega arith in
    let mine : with_more count w ≡ with_more (cond (nat_eq j k) count 0) v =
    ap (with_more count) here ∙ ap (λ (b : Bool). with_more (cond b count 0) v) (sym (eq-eqb j k at)) in
    let rest = none_before (suc k) j count ws (omega arith) in
    λ i. mine i ∷ rest i
more_executed_at k (suc i) j count (v ∷ ws) w is here =
    let apart : j ≢ k = λ e. absurd (omega arith) in
    let first = with_other j k count v apart in
    let rest = more_executed_at (suc k) i j count ws w (omega arith) here in
    λ i. first i ∷ rest i
