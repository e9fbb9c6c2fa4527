-- Lists without a fault rise, by recursion along the list; so a search finds the one entry of an index.
use Rattle.std.proofs.Common.{◌≡◌, ℕ, zero, suc, ◌+◌, ◌^◌, ◌<◌, ◌≤◌, Bool, true, false, cond, eqb, ltb, leb, List, [], ◌∷◌, map, length, get_or, set, take, drop, Option, Some, None, Result, Ok, Err, refl, sym, ◌∙◌, ap, subst, arith, inl, inr}
use Rattle.std.specs.Prelude.{MatchResult, is_some, IfNone}
use Rattle.std.specs.List.{All, AllPairs}
use Rattle.std.specs.List.Sorted.{IsSearchInRange, IsBinarySearchResult, IsNonDecreasingBy, IsStrictlyIncreasing}
use Rattle.std.specs.Option.{option_or}
use Rattle.std.specs.Ordering.{nat_cmp, ordering_index}
use Rattle.std.proofs.Math.Nat.{suc-add}
use Rattle.std.proofs.lemmas.Bool.{ltb-false, leb-false, eq-eqb, ne_eqb, le-ltb, lt-leb, cond-true, cond-false, cases_eq}
use Rattle.std.proofs.lemmas.Bool.Decides.{nat_tests}
use Rattle.std.proofs.lemmas.Cmp.{ranked}
use Rattle.std.proofs.lemmas.List.{get_or-map, length-map, at_drop_more, get_or-set_same, get_or-set_other}
use Rattle.std.proofs.lemmas.List.Elements.{All-nil, All-cons, All-more}
use Rattle.std.proofs.lemmas.List.Kept.{AllPairs-from_increasing}
use Rattle.std.proofs.lemmas.List.Sorted.{IsNonDecreasingBy-from_default}
use Rattle.mask_certificate.specs.declared.certificate.ListFault.{ListFault}
use Rattle.mask_certificate.specs.Lists.{list_of, mask_at, fault_in, first_fault, Rises, ArePositions}

-- the indices of entries
abbrev indices : List (ℕ × ℕ) → List ℕ
indices entries = map (λ entry. entry.0) entries

-- a test that found no fault
none_of_test : (b : Bool) (fault : ListFault) (rest : Option ListFault) → cond b (Some fault) rest ≡ None → (b ≡ false) × (rest ≡ None)
none_of_test true fault rest e = absurd cc
none_of_test false fault rest e = (refl, e)

increasing_cons : (x : ℕ) (xs : List ℕ) → (0 < length xs → x < get_or xs 0 0) → IsStrictlyIncreasing xs → IsStrictlyIncreasing (x ∷ xs)
increasing_cons x xs first more zero lt = first (omega arith)
increasing_cons x xs first more (suc k) lt = rw (suc-add k 1) (more k (omega arith))

-- entries from a least index on
record RisesFrom (least : ℕ) (entries : List (ℕ × ℕ)) : Type 0 where
  first : 0 < length (indices entries) → least ≤ get_or (indices entries) 0 0
  rises : Rises entries

rises_from : (task place least : ℕ) (entries : List (ℕ × ℕ)) → fault_in task place least entries ≡ None → RisesFrom least entries
rises_from task place least [] e = record { first = λ lt. absurd (omega arith); rises = record { rising = λ k lt. absurd (omega arith); inside = All-nil _ } }
rises_from task place least (entry ∷ entries) e =
    let low = none_of_test (ltb entry.0 least) _ _ e in
    let high = none_of_test (leb 4096 entry.0) _ _ low.1 in
    let more = rises_from task (place + 1) (entry.0 + 1) entries high.1 in
    record {
      first = λ lt. ltb-false entry.0 least low.0;
      rises = record {
        rising = increasing_cons entry.0 (indices entries) (λ lt. omega (arith, more.first lt)) more.rises.rising;
        inside = All-cons (λ (e : ℕ × ℕ). e.0 < 4096) entry entries (leb-false 4096 entry.0 high.0) more.rises.inside;
      };
    }

pub option_or_none : (a b : Option ListFault) → option_or a b ≡ None → (a ≡ None) × (b ≡ None)
option_or_none None b e = (refl, e)
option_or_none (Some fault) b e = absurd cc

pub rises_alone : (list : List (ℕ × ℕ)) (task : ℕ) → fault_in task 0 0 list ≡ None → Rises list
rises_alone list task e = (rises_from task 0 0 list e).rises

-- each list of a certificate rises, a missing one too
pub list_rises : (lists : List (List (ℕ × ℕ))) (task first : ℕ) → first_fault first lists ≡ None → Rises (list_of lists task)
list_rises [] task first e = (rises_from 0 0 0 [] refl).rises
list_rises (list ∷ lists) zero first e = (rises_from first 0 0 list (option_or_none _ _ e).0).rises
list_rises (list ∷ lists) (suc task) first e = list_rises lists task (first + 1) (option_or_none _ _ e).1

-- an index that no entry has
absent : (entries : List (ℕ × ℕ)) (index : ℕ) → ((k : ℕ) → k < length entries → (get_or entries k (0, 0)).0 ≡ index → ⊥) → mask_at entries index ≡ None
absent [] index none = refl
absent (entry ∷ entries) index none =
    cond-false (eqb entry.0 index) _ _ (ne_eqb entry.0 index (none 0 (omega arith))) ∙ absent entries index (λ k lt. none (suc k) (omega arith))

-- the one entry of an index
present : (entries : List (ℕ × ℕ)) (k : ℕ) → AllPairs (λ x y. x < y) (indices entries) → k < length entries → mask_at entries (get_or entries k (0, 0)).0 ≡ Some (get_or entries k (0, 0)).1
present [] k pairs lt = absurd (omega arith)
present (entry ∷ entries) zero pairs lt = cond-true (eqb entry.0 entry.0) _ _ (eq-eqb entry.0 entry.0 refl)
present (entry ∷ entries) (suc k) pairs lt =
    let below : entry.0 < get_or (indices entries) k 0 = pairs 0 (suc k) 0 (omega arith) (omega (arith, length-map entries (λ (e : ℕ × ℕ). e.0))) in
    let at : get_or (indices entries) k 0 ≡ (get_or entries k (0, 0)).0 = get_or-map (λ (e : ℕ × ℕ). e.0) entries k (0, 0) 0 (omega arith) in
    cond-false (eqb entry.0 (get_or entries k (0, 0)).0) _ _ (ne_eqb _ _ (λ same. omega arith)) ∙ present entries k (λ i j d lt' within. pairs (suc i) (suc j) d (omega arith) (omega arith)) (omega arith)

module _ (entries : List (ℕ × ℕ)) (rises : Rises entries) (index : ℕ) where
  pairs_rise : AllPairs (λ x y. x < y) (indices entries)
  pairs_rise = AllPairs-from_increasing (indices entries) rises.rising

  indices_rise : (i j : ℕ) → i < j → j < length entries → (get_or entries i (0, 0)).0 < (get_or entries j (0, 0)).0
  indices_rise i j lt within =
      let at : (k : ℕ) → k < length entries → get_or (indices entries) k 0 ≡ (get_or entries k (0, 0)).0 = λ k in'. get_or-map (λ (e : ℕ × ℕ). e.0) entries k (0, 0) 0 in' in
      let pair = pairs_rise i j 0 lt (omega (arith, length-map entries (λ (e : ℕ × ℕ). e.0))) in
      omega (arith, pair, at i (omega arith), at j within)

  comparisons_rise : IsNonDecreasingBy (λ (e : ℕ × ℕ). ordering_index (nat_cmp e.0 index)) entries
  comparisons_rise = IsNonDecreasingBy-from_default (λ (e : ℕ × ℕ). ordering_index (nat_cmp e.0 index)) entries (0, 0) (λ i j le within.
      let rise : (get_or entries i (0, 0)).0 ≤ (get_or entries j (0, 0)).0 = grind (arith, indices_rise i j, λ (same : i ≡ j). ap (λ k. (get_or entries k (0, 0)).0) same) in
      grind (arith, nat_tests))

  -- what a binary search by index found
  pub searched : (r : Result ℕ ℕ) → IsSearchInRange r (length entries) → IsBinarySearchResult (λ (e : ℕ × ℕ). nat_cmp e.0 index) entries r
      → MatchResult r (λ k. mask_at entries index ≡ Some (get_or entries k (0, 0)).1) (λ k. mask_at entries index ≡ None)
  searched (Ok k) within equal =
      let here : (get_or entries k (0, 0)).0 ≡ index = ranked _ index _ (sym (equal (0, 0))) in
      ap (mask_at entries) (sym here) ∙ present entries k pairs_rise within
  searched (Err k) within parted = absent entries index (λ j in' same.
      let apart = parted comparisons_rise in
      let low : j < k → (get_or entries j (0, 0)).0 < index = λ lt. ranked _ index _ (sym (apart.0 j (0, 0) (omega arith) lt)) in
      let high : k ≤ j → index < (get_or entries j (0, 0)).0 = λ le. ranked _ index _ (sym (apart.1 j (0, 0) le in')) in
      grind (arith, low, high))

-- ---- a table of positions

-- this many indices stand before that of an entry
pub position_small : (entries : List (ℕ × ℕ)) → Rises entries → (k : ℕ) → k < length entries → k ≤ (get_or entries k (0, 0)).0
position_small entries rises zero lt = omega arith
position_small entries rises (suc k) lt =
    let before = position_small entries rises k (omega arith) in
    let rise = indices_rise entries rises 0 k (suc k) (omega arith) lt in
    omega arith

pub index_small : (entries : List (ℕ × ℕ)) → Rises entries → (k : ℕ) → k < length entries → (get_or entries k (0, 0)).0 < 4096
index_small entries rises k lt = rises.inside k (0, 0) lt

pub few_entries : (entries : List (ℕ × ℕ)) → Rises entries → length entries ≤ 4096
few_entries [] rises = omega arith
few_entries (entry ∷ entries) rises =
    let last = length entries in
    omega (arith, position_small (entry ∷ entries) rises last (omega arith), index_small (entry ∷ entries) rises last (omega arith))

-- the first n positions stand at their entries' indices
abbrev pub HasPositions : List (ℕ × ℕ) → List ℕ → ℕ → Type 0
HasPositions entries positions n = (k : ℕ) → k < n → get_or positions (get_or entries k (0, 0)).0 0 ≡ k

-- one position more
pub positions_more : (entries : List (ℕ × ℕ)) → Rises entries → (positions : List ℕ) (n index : ℕ) → n < length entries → index ≡ (get_or entries n (0, 0)).0 → length positions ≡ 4096
    → HasPositions entries positions n → HasPositions entries (set positions index n) (n + 1)
positions_more entries rises positions n index lt is long so_far k less = elim (cases_eq k n) [
  | inl same ↦
      let within : index < length positions = omega (arith, index_small entries rises n lt) in
      let here : (get_or entries k (0, 0)).0 ≡ index = ap (λ j. (get_or entries j (0, 0)).0) same ∙ sym is in
      ap (λ i. get_or (set positions index n) i 0) here ∙ get_or-set_same positions index n 0 within ∙ sym same
  | inr other ↦
      let before : k < n = omega arith in
      let rise = indices_rise entries rises 0 k n before lt in
      let apart : (get_or entries k (0, 0)).0 ≡ index → ⊥ = λ e. omega arith in
      get_or-set_other positions index (get_or entries k (0, 0)).0 n 0 apart ∙ so_far k before
]

-- an index after the code
pub mask_beyond : (entries : List (ℕ × ℕ)) → Rises entries → (index : ℕ) → 4096 ≤ index → mask_at entries index ≡ None
mask_beyond entries rises index beyond = absent entries index (λ k lt same. omega (arith, index_small entries rises k lt))

-- the entry at a position has the index
pub mask_there : (entries : List (ℕ × ℕ)) → Rises entries → (index k : ℕ) → k < length entries → (get_or entries k (0, 0)).0 ≡ index → mask_at entries index ≡ Some (get_or entries k (0, 0)).1
mask_there entries rises index k lt same = ap (mask_at entries) (sym same) ∙ present entries k (pairs_rise entries rises 0) lt

-- the entry at the only position that could have the index has another one, or there is no entry
pub mask_absent : (entries : List (ℕ × ℕ)) (positions : List ℕ) → ArePositions entries positions → (index k : ℕ) → k ≡ get_or positions index 0
    → (k < length entries → (get_or entries k (0, 0)).0 ≡ index → ⊥) → mask_at entries index ≡ None
mask_absent entries positions are index k is other = absent entries index (λ j lt same.
    let here : k ≡ j = is ∙ ap (λ i. get_or positions i 0) (sym same) ∙ are j lt in
    other (omega arith) (ap (λ i. (get_or entries i (0, 0)).0) here ∙ same))

-- ---- the loops that look for a fault

-- an entry at which nothing is wrong
pub fault_more : (task place least : ℕ) (list : List (ℕ × ℕ)) (entry : ℕ × ℕ) (whole : Option ListFault) → place < length list → entry ≡ get_or list place entry → least ≤ entry.0 → entry.0 < 4096
    → fault_in task place least (drop place list) ≡ whole → fault_in task (place + 1) (entry.0 + 1) (drop (place + 1) list) ≡ whole
fault_more task place least list entry whole within is low high so_far =
    let rest = drop (place + 1) list in
    let here : fault_in task place least (drop place list) ≡ fault_in task (place + 1) (entry.0 + 1) rest =
    at_drop_more (fault_in task place least) list place entry within
    ∙ ap (λ (e : ℕ × ℕ). fault_in task place least (e ∷ rest)) (sym is)
    ∙ cond-false (ltb entry.0 least) _ _ (le-ltb entry.0 least low)
    ∙ cond-false (leb 4096 entry.0) _ _ (lt-leb 4096 entry.0 high) in
    sym here ∙ so_far

pub masks_more : (list : List (ℕ × ℕ)) (place : ℕ) (entry : ℕ × ℕ) → place < length list → entry ≡ get_or list place entry → entry.1 < 2 ^ 34 → All (λ e. e.1 < 2 ^ 34) (take place list)
    → All (λ e. e.1 < 2 ^ 34) (take (place + 1) list)
masks_more list place entry within is small so_far =
    All-more (λ (e : ℕ × ℕ). e.1 < 2 ^ 34) list place entry within so_far (subst (λ (e : ℕ × ℕ). e.1 < 2 ^ 34) is small)

pub if_none : {P : Type 0} (o : Option ListFault) → is_some o ≡ false → IfNone o P → P
if_none None e h = h
if_none (Some fault) e h = absurd cc

pub is_none_of : (o : Option ListFault) → is_some o ≡ false → o ≡ None
is_none_of None e = refl
is_none_of (Some fault) e = absurd cc
