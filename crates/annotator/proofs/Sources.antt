-- The lists of sources: a source is put into the list of an index, and stays in it.
use Rattle.annotator.proofs.Imports.{◌≡◌, ℕ, ◌+◌, ◌<◌, ◌≤◌, ◌≢◌, ◌⊎◌, ◌↔◌, Bool, true, false, ◌||◌, Option, Some, None, List, [], ◌∷◌, ◌++◌, map, length, get_or, set, slice_get, replicate, refl, sym, ◌∙◌, ap, subst, inl, inr, arith, zero, suc, Contains, Global, Vec, cases_eq, cases_lt, or_cases, or_left, or_right, get_or-set_same, get_or-set_other, get_or-map, length-set, length-replicate, map-set, map-append, Contains-append_left, Contains-push, Contains-push_cases, slice_get_within, Listing, Next, Follows, is_among, is_it, it, that, first_inside, second_inside, lists_of, sources_of, with_source, AreLeading}

-- the code's write, seen without where lists lie in memory
pub put_there : (lists : List (Vec ℕ Global)) (j source : ℕ) (old new : Vec ℕ Global) → j < length lists → old ≡ get_or lists j old
    → new.items ≡ old.items ++ source ∷ [] → lists_of (set lists j new) ≡ with_source (lists_of lists) (Some j) source
put_there lists j source old new within is items =
    let at : get_or (lists_of lists) j [] ≡ old.items = get_or-map (λ (v : Vec ℕ Global). v.items) lists j old [] within ∙ ap (λ (v : Vec ℕ Global). v.items) (sym is) in
    map-set (λ (v : Vec ℕ Global). v.items) lists j new
    ∙ ap (λ (xs : List ℕ). set (lists_of lists) j xs) (items ∙ ap (λ (xs : List ℕ). xs ++ source ∷ []) (sym at))

pub length-with_source : (lists : List (List ℕ)) (index : Option ℕ) (source : ℕ) → length (with_source lists index source) ≡ length lists
length-with_source lists None source = refl
length-with_source lists (Some j) source = length-set lists j (sources_of lists j ++ source ∷ [])

-- one list
put_at : (lists : List (List ℕ)) (j source k : ℕ) → j < length lists → k ≡ j → sources_of (with_source lists (Some j) source) k ≡ sources_of lists k ++ source ∷ []
put_at lists j source k within e =
    subst (λ (n : ℕ). sources_of (with_source lists (Some j) source) n ≡ sources_of lists n ++ source ∷ []) (sym e)
    (get_or-set_same lists j (sources_of lists j ++ source ∷ []) [] within)

put_elsewhere : (lists : List (List ℕ)) (j source k : ℕ) → k ≢ j → sources_of (with_source lists (Some j) source) k ≡ sources_of lists k
put_elsewhere lists j source k ne = get_or-set_other lists j k (sources_of lists j ++ source ∷ []) [] ne

put_keeps : (lists : List (List ℕ)) (index : Option ℕ) (source k i : ℕ) → ((j : ℕ) → index ≡ Some j → j < length lists)
    → Contains (sources_of lists k) i → Contains (sources_of (with_source lists index source) k) i
put_keeps lists None source k i within has = has
put_keeps lists (Some j) source k i within has = elim (cases_eq k j) [
  | inl e ↦ subst (λ (xs : List ℕ). Contains xs i) (sym (put_at lists j source k (within j refl) e)) (Contains-append_left (sources_of lists k) (source ∷ []) i has)
  | inr ne ↦ subst (λ (xs : List ℕ). Contains xs i) (sym (put_elsewhere lists j source k ne)) has
]

put_has : (lists : List (List ℕ)) (index : Option ℕ) (source k : ℕ) → ((j : ℕ) → index ≡ Some j → j < length lists)
    → index ≡ Some k → Contains (sources_of (with_source lists index source) k) source
put_has lists None source k within e = absurd (cc)
put_has lists (Some j) source k within e =
    let same : k ≡ j = cc in
    subst (λ (xs : List ℕ). Contains xs source) (sym (put_at lists j source k (within j refl) same)) (Contains-push (sources_of lists k) source)

put_only : (lists : List (List ℕ)) (index : Option ℕ) (source k i : ℕ) → ((j : ℕ) → index ≡ Some j → j < length lists)
    → Contains (sources_of (with_source lists index source) k) i → Contains (sources_of lists k) i ⊎ ((index ≡ Some k) × (source ≡ i))
put_only lists None source k i within has = inl has
put_only lists (Some j) source k i within has = elim (cases_eq k j) [
  | inl e ↦ elim (Contains-push_cases (sources_of lists k) source i (subst (λ (xs : List ℕ). Contains xs i) (put_at lists j source k (within j refl) e) has)) [
    | inl was ↦ inl was
    | inr new ↦ inr (ap (λ (n : ℕ). Some n) (sym e), new)
  ]
  | inr ne ↦ inl (subst (λ (xs : List ℕ). Contains xs i) (put_elsewhere lists j source k ne) has)
]

-- nothing leads anywhere yet
nothing_at : (n j : ℕ) → sources_of (replicate n []) j ≡ []
nothing_at zero j = refl
nothing_at (suc n) zero = refl
nothing_at (suc n) (suc j) = nothing_at n j

pub leading_none : (p : Listing) (n : ℕ) (lists : List (List ℕ)) → lists ≡ replicate n [] → n ≡ length p.code → AreLeading p 0 lists
leading_none p n lists is sized = record {
  sized = ap (λ (xs : List (List ℕ)). length xs) is ∙ length-replicate n [] ∙ sized;
  exact = λ i j. (
    λ has. absurd (nothing (subst (λ (xs : List ℕ). Contains xs i) (ap (λ (xs : List (List ℕ)). sources_of xs j) is ∙ nothing_at n j) has)),
    λ f. absurd (omega (arith, f.0)),
  );
}
  where
    nothing : {i : ℕ} → Contains [] i → ⊥
    nothing c = omega (arith, c.1)

-- one instruction more
pub leading_more : (p : Listing) (n : ℕ) (lists one two : List (List ℕ)) (next : Next)
    → ((j : ℕ) → (is_among next j ≡ true) ↔ Follows p n j)
    → one ≡ with_source lists next.first n → two ≡ with_source one next.second n
    → AreLeading p n lists → AreLeading p (n + 1) two
leading_more p n lists one two next exact first second before = record {
  sized = ap (λ (xs : List (List ℕ)). length xs) second ∙ length-with_source one next.second n ∙ one_sized;
  exact = λ i j. (λ has. found i j has, λ f. listed i j f.0 f.1);
}
  where
    one_sized : length one ≡ length p.code
    one_sized = ap (λ (xs : List (List ℕ)). length xs) first ∙ length-with_source lists next.first n ∙ before.sized

    in_lists : (j : ℕ) → next.first ≡ Some j → j < length lists
    in_lists = first_inside p n (length lists) next exact before.sized

    in_one : (j : ℕ) → next.second ≡ Some j → j < length one
    in_one = second_inside p n (length one) next exact one_sized

    from_one : (i j : ℕ) → Contains (sources_of one j) i → Contains (sources_of two j) i
    from_one i j has = subst (λ (xs : List (List ℕ)). Contains (sources_of xs j) i) (sym second) (put_keeps one next.second n j i in_one has)

    from_lists : (i j : ℕ) → Contains (sources_of lists j) i → Contains (sources_of one j) i
    from_lists i j has = subst (λ (xs : List (List ℕ)). Contains (sources_of xs j) i) (sym first) (put_keeps lists next.first n j i in_lists has)

    new_one : (i j : ℕ) → n ≡ i → is_among next j ≡ true → (i < n + 1) × Follows p i j
    new_one i j same among = (omega arith, subst (λ (k : ℕ). Follows p k j) same ((exact j).0 among))

    found : (i j : ℕ) → Contains (sources_of two j) i → (i < n + 1) × Follows p i j
    found i j has = elim (put_only one next.second n j i in_one (subst (λ (xs : List (List ℕ)). Contains (sources_of xs j) i) second has)) [
      | inl in_first ↦ elim (put_only lists next.first n j i in_lists (subst (λ (xs : List (List ℕ)). Contains (sources_of xs j) i) first in_first)) [
        | inl was ↦ more i j ((before.exact i j).0 was)
        | inr new ↦ new_one i j new.1 (or_left (is_it next.first j) (is_it next.second j) (it next.first j new.0))
      ]
      | inr new ↦ new_one i j new.1 (or_right (is_it next.first j) (is_it next.second j) (it next.second j new.0))
    ]
      where
        more : (i j : ℕ) → (i < n) × Follows p i j → (i < n + 1) × Follows p i j
        more i j h = let less : i < n = h.0 in (omega arith, h.1)

    put_both : (j : ℕ) → is_among next j ≡ true → Contains (sources_of two j) n
    put_both j among = elim (or_cases (is_it next.first j) (is_it next.second j) among) [
      | inl a ↦ from_one n j (subst (λ (xs : List (List ℕ)). Contains (sources_of xs j) n) (sym first) (put_has lists next.first n j in_lists (that next.first j a)))
      | inr b ↦ subst (λ (xs : List (List ℕ)). Contains (sources_of xs j) n) (sym second) (put_has one next.second n j in_one (that next.second j b))
    ]

    listed : (i j : ℕ) → i < n + 1 → Follows p i j → Contains (sources_of two j) i
    listed i j less f = elim (cases_lt i n) [
      | inl before_n ↦ from_one i j (from_lists i j ((before.exact i j).1 (before_n, f)))
      | inr not_before ↦
          let same : i ≡ n = omega arith in
          subst (λ (k : ℕ). Contains (sources_of two j) k) (sym same) (put_both j ((exact j).1 (subst (λ (k : ℕ). Follows p k j) same f)))
    ]
