-- The units that are no longer there, one after the other.
use Rattle.std.proofs.Common.{◌≡◌, ℕ, suc, ◌+◌, ◌<◌, ◌≤◌, ◌⊎◌, inl, inr, List, [], ◌∷◌, ◌++◌, length, take, drop, get_or, slice_get, Some, None, sym, ap, ◌∙◌, arith, add-one, append_assoc, drop-cons}
use Rattle.std.proofs.lemmas.Bool.{cases_lt}
use Rattle.std.proofs.lemmas.List.{drop_all, length-take-le, take_all}
use Rattle.std.proofs.lemmas.Option.{slice_get_cases, slice_get_within, get_or_from_slice_get}
use Rattle.machine_model.specs.Machine.{Active}
use Rattle.event_trace.specs.declared.change.Change.{Change}
use Rattle.event_trace.specs.declared.change.Change.TheVariants.{AtUnit}
use Rattle.event_trace.specs.declared.unit_change.UnitChange.{UnitChange}
use Rattle.event_trace.specs.Changes.{lost}

past_by : (change : UnitChange) (k : ℕ) (q : List Active)
    → ((x : Active) × (k < length q) × (slice_get q k ≡ Some x) × (get_or q k x ≡ x)) ⊎ ((length q ≤ k) × (slice_get q k ≡ None))
    → slice_get q k ≡ None → lost change (k + 1) (drop (k + 1) q) ≡ lost change k (drop k q)
past_by change k q (inl there) none = let is = there.2 in cc
past_by change k q (inr past) none =
    ap (λ (us : List Active). lost change (k + 1) us) (drop_all (k + 1) q (omega (arith, past.0)))
    ∙ sym (ap (λ (us : List Active). lost change k us) (drop_all k q past.0))

-- after the last unit there is none
pub lost_past : (change : UnitChange) (k : ℕ) (q : List Active) (front : List Change) → slice_get q k ≡ None
    → front ++ lost change (k + 1) (drop (k + 1) q) ≡ front ++ lost change k (drop k q)
lost_past change k q front none = ap (λ (cs : List Change). front ++ cs) (past_by change k q (slice_get_cases q k).1 none)

lost_there : (change : UnitChange) (k : ℕ) (q : List Active) (u : Active) → slice_get q k ≡ Some u
    → lost change k (drop k q) ≡ AtUnit k u.task change ∷ lost change (k + 1) (drop (k + 1) q)
lost_there change k q u there =
    let cut : drop k q ≡ u ∷ drop (k + 1) q =
    drop-cons q k u (slice_get_within q k u there)
    ∙ ap (λ (v : Active). v ∷ drop (suc k) q) (get_or_from_slice_get q k u u there)
    ∙ ap (λ (j : ℕ). u ∷ drop j q) (sym (add-one k)) in
    ap (λ (us : List Active). lost change k us) cut
    ∙ ap (λ (j : ℕ). AtUnit k u.task change ∷ lost change j (drop (k + 1) q)) (sym (add-one k))

-- one unit more
pub lost_more : (change : UnitChange) (k task : ℕ) (q : List Active) (u : Active) (front now : List Change) → Some u ≡ slice_get q k → task ≡ u.task
    → now ≡ front ++ AtUnit k task change ∷ [] → now ++ lost change (k + 1) (drop (k + 1) q) ≡ front ++ lost change k (drop k q)
lost_more change k task q u front now there named told =
    let rest = lost change (k + 1) (drop (k + 1) q) in
    ap (λ (cs : List Change). cs ++ rest) told
    ∙ append_assoc front (AtUnit k task change ∷ []) rest
    ∙ ap (λ (n : ℕ). front ++ AtUnit k n change ∷ rest) named
    ∙ ap (λ (cs : List Change). front ++ cs) (sym (lost_there change k q u (sym there)))

kept_by : (change : UnitChange) (n : ℕ) (q : List Active) → (n < length q) ⊎ (length q ≤ n)
    → lost change n (drop n q) ≡ lost change (length (take n q)) (drop (length (take n q)) q)
kept_by change n q (inl within) =
    let some : n ≤ length q = omega arith in
    ap (λ (m : ℕ). lost change m (drop m q)) (sym (length-take-le n q some))
kept_by change n q (inr past) =
    let all : length q ≤ length (take n q) = omega (arith, ap (λ (us : List Active). length us) (take_all n q past)) in
    ap (λ (us : List Active). lost change n us) (drop_all n q past)
    ∙ sym (ap (λ (us : List Active). lost change (length (take n q)) us) (drop_all (length (take n q)) q all))

-- where the first n stay, those from n on are lost
pub lost_but : (change : UnitChange) (n : ℕ) (q : List Active) → lost change n (drop n q) ≡ lost change (length (take n q)) (drop (length (take n q)) q)
lost_but change n q = kept_by change n q (cases_lt n (length q))

-- where those up to k stay, those after it are lost
pub lost_after : (change : UnitChange) (k : ℕ) (q : List Active) → lost change (k + 1) (drop (k + 1) q) ≡ lost change (length (take (suc k) q)) (drop (length (take (suc k) q)) q)
lost_after change k q = ap (λ (n : ℕ). lost change n (drop n q)) (add-one k) ∙ lost_but change (suc k) q
