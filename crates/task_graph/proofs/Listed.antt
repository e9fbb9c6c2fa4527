-- The marked indices as a list: a filter of the indices, which rise.
use Rattle.std.proofs.Common.{◌≡◌, ℕ, ◌+◌, ◌<◌, ◌≤◌, ◌⊎◌, ◌↔◌, Bool, true, false, cond, if◌then◌else◌, List, [], ◌∷◌, ◌++◌, length, get_or, refl, sym, ◌∙◌, ap, subst, inl, inr, arith, zero, suc, add-zero, add-one, append-nil}
use Rattle.std.specs.Prelude.{Contains, filter}
use Rattle.std.specs.List.{range_with_len}
use Rattle.std.specs.List.Sorted.{IsStrictlyIncreasing}
use Rattle.task_descriptor.specs.Listing.{Listing}
use Rattle.task_graph.specs.Members.{Reaches}
use Rattle.task_graph.specs.SearchSteps.{is_marked}
use Rattle.task_graph.proofs.Searches.{marked_within}
use Rattle.std.proofs.lemmas.Bool.{cases_Bool, cases_lt}
use Rattle.std.proofs.lemmas.List.Elements.{filter-append, Contains-append_left, Contains-push, Contains-push_cases}
use Rattle.std.proofs.lemmas.List.FromFn.{length-range_with_len, get_or-range_with_len}
use Rattle.std.proofs.lemmas.List.Kept.{IsStrictlyIncreasing-filter}

range_more : (a n : ℕ) → range_with_len a (suc n) ≡ range_with_len a n ++ (a + n) ∷ []
range_more a zero = ap (λ (k : ℕ). k ∷ []) (sym (add-zero a))
range_more a (suc n) =
    let e : (a + 1) + n ≡ a + suc n = omega arith in
    ap (λ (xs : List ℕ). a ∷ xs) (range_more (a + 1) n ∙ ap (λ (k : ℕ). range_with_len (a + 1) n ++ k ∷ []) e)

one_more : (test : ℕ → Bool) (n : ℕ) → filter test (range_with_len 0 (n + 1)) ≡ filter test (range_with_len 0 n) ++ cond (test n) (n ∷ []) []
one_more test n =
    let same : 0 + n ≡ n = omega arith in
    ap (λ (k : ℕ). filter test (range_with_len 0 k)) (add-one n)
    ∙ ap (filter test) (range_more 0 n ∙ ap (λ (k : ℕ). range_with_len 0 n ++ k ∷ []) same)
    ∙ filter-append test (range_with_len 0 n) (n ∷ [])

pub takes_one : (test : ℕ → Bool) (n : ℕ) → test n ≡ true → filter test (range_with_len 0 (n + 1)) ≡ filter test (range_with_len 0 n) ++ n ∷ []
takes_one test n e = one_more test n ∙ ap (λ (b : Bool). filter test (range_with_len 0 n) ++ cond b (n ∷ []) []) e

pub takes_none : (test : ℕ → Bool) (n : ℕ) → test n ≡ false → filter test (range_with_len 0 (n + 1)) ≡ filter test (range_with_len 0 n)
takes_none test n e = one_more test n ∙ ap (λ (b : Bool). filter test (range_with_len 0 n) ++ cond b (n ∷ []) []) e ∙ append-nil (filter test (range_with_len 0 n))

pub rises : (test : ℕ → Bool) (n : ℕ) → IsStrictlyIncreasing (filter test (range_with_len 0 n))
rises test n = IsStrictlyIncreasing-filter test (range_with_len 0 n) (λ k h.
    let len = length-range_with_len 0 n in
    let one : get_or (range_with_len 0 n) k 0 ≡ 0 + k = get_or-range_with_len 0 n k 0 (omega arith) in
    let two : get_or (range_with_len 0 n) (k + 1) 0 ≡ 0 + (k + 1) = get_or-range_with_len 0 n (k + 1) 0 (omega arith) in
    omega arith)

-- the filter holds what passes
filter_has : (test : ℕ → Bool) (n k : ℕ) → k < n → test k ≡ true → Contains (filter test (range_with_len 0 n)) k
filter_has test zero k h e = absurd (omega arith)
filter_has test (suc n) k h e =
    subst (λ (xs : List ℕ). Contains xs k) (sym (ap (λ (m : ℕ). filter test (range_with_len 0 m)) (sym (add-one n)) ∙ one_more test n))
    (elim (cases_lt k n) [
      | inl less ↦ Contains-append_left (filter test (range_with_len 0 n)) (cond (test n) (n ∷ []) []) k (filter_has test n k less e)
      | inr last ↦
          let same : k ≡ n = omega arith in
          let passes : test n ≡ true = subst (λ (m : ℕ). test m ≡ true) same e in
          subst (λ (b : Bool). Contains (filter test (range_with_len 0 n) ++ cond b (n ∷ []) []) k) (sym passes)
          (subst (λ (m : ℕ). Contains (filter test (range_with_len 0 n) ++ n ∷ []) m) (sym same) (Contains-push (filter test (range_with_len 0 n)) n))
    ])

filter_only : (test : ℕ → Bool) (n k : ℕ) → Contains (filter test (range_with_len 0 n)) k → (k < n) × (test k ≡ true)
filter_only test zero k c = absurd (omega (arith, c.1))
filter_only test (suc n) k c =
    elim (cases_Bool (test n)) [
      | inl passes ↦ elim (Contains-push_cases (filter test (range_with_len 0 n)) n k (moved (takes_one test n passes))) [
        | inl before ↦ more (filter_only test n k before)
        | inr same ↦ (omega arith, subst (λ (m : ℕ). test m ≡ true) same passes)
      ]
      | inr fails ↦ more (filter_only test n k (moved (takes_none test n fails)))
    ]
  where
    moved : {xs : List ℕ} → filter test (range_with_len 0 (n + 1)) ≡ xs → Contains xs k
    moved e = subst (λ (xs : List ℕ). Contains xs k) (ap (λ (m : ℕ). filter test (range_with_len 0 m)) (sym (add-one n)) ∙ e) c

    more : (k < n) × (test k ≡ true) → (k < suc n) × (test k ≡ true)
    more h = let less : k < n = h.0 in (omega arith, h.1)

pub lists_exactly : (p : Listing) (entry entry' : ℕ) (given marks : List Bool) (items : List ℕ)
    → given ≡ marks → items ≡ filter (is_marked given) (range_with_len 0 (length given)) → entry ≡ entry'
    → ((i : ℕ) → (is_marked marks i ≡ true) ↔ Reaches p entry i)
    → (i : ℕ) → Contains items i ↔ Reaches p entry' i
lists_exactly p entry entry' given marks items same is e exact i = (
  λ c. let k = filter_only (is_marked given) (length given) i (subst (λ (xs : List ℕ). Contains xs i) is c) in
      subst (λ n. Reaches p n i) e ((exact i).0 (subst (λ (ms : List Bool). is_marked ms i ≡ true) same k.1)),
  λ r. let m : is_marked given i ≡ true = subst (λ (ms : List Bool). is_marked ms i ≡ true) (sym same) ((exact i).1 (subst (λ n. Reaches p n i) (sym e) r)) in
      subst (λ (xs : List ℕ). Contains xs i) (sym is) (filter_has (is_marked given) (length given) i (marked_within given i m) m),
)
