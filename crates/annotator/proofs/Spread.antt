-- Registers spread backward: what a mask holds may be written; and it holds what the instruction writes,
-- and what each inner successor's mask holds, but for successors that wait.
use Rattle.annotator.proofs.Imports.{◌≡◌, ℕ, ◌+◌, ◌<◌, ◌≤◌, ◌⊎◌, ◌↔◌, true, false, Option, Some, None, List, [], ◌∷◌, ◌++◌, length, get_or, slice_get, refl, sym, ◌∙◌, ap, subst, inl, inr, arith, length-append, zero, suc, Contains, All, range_with_len, cases_lt, get_or_past, get_or_append_left, get_or_push, map-id, Contains-append_left, Contains-push, Contains-push_cases, Contains-get_or, slice_get_within, slice_get-get_or, has, dests, has-empty, Listing, Marked, Edge, Path, stay, onward, MayWrite, Follows, may, sources_of, left_to_do, AreExact, AreDestinations, AreLeading, Widened}
use Rattle.std.proofs.lemmas.List.FromFn.{length-range_with_len, get_or-range_with_len, map-range_with_len_more}

pub record Spread (p : Listing) (masks waiting : List ℕ) : Type 0 where
  pub sized : length masks ≡ length p.code
  pub sound : (i r : ℕ) → may masks i r → MayWrite p i r
  pub written : (i : ℕ) (m : Marked) (r : ℕ) → slice_get p.code i ≡ Some m → dests m.op r ≡ true → may masks i r
  pub inside : (i : ℕ) → Contains waiting i → i < length p.code
  pub closed : (i j r : ℕ) → Follows p i j → may masks j r → may masks i r ⊎ Contains waiting j

-- a path goes on at its front
pub path_before : (p : Listing) (i j k : ℕ) → Edge p false i j → Path p j k → Path p i k
path_before p i j k e stay = onward stay e
path_before p i j k e (onward path last) = onward (path_before p i j _ e path) last

pub writes_before : (p : Listing) (i j r : ℕ) → Edge p false i j → MayWrite p j r → MayWrite p i r
writes_before p i j r e w = record { place = w.place; comes = path_before p i j w.place e w.comes; at = w.at; is_there = w.is_there; writes = w.writes }

some_there : (xs : List Marked) (i : ℕ) → i < length xs → (m : Marked) × (slice_get xs i ≡ Some m)
some_there [] i h = absurd (omega arith)
some_there (m ∷ ms) zero h = (m, refl)
some_there (m ∷ ms) (suc i) h = some_there ms i (omega arith)

no_bits : (masks : List ℕ) (i r : ℕ) → length masks ≤ i → may masks i r → ⊥
no_bits masks i r past h = wrong (sym (has-empty r) ∙ sym (ap (λ (n : ℕ). has n r) (get_or_past masks i 0 past)) ∙ h)
  where
    wrong : false ≡ true → ⊥
    wrong e = cc

in_range : (n k : ℕ) → k < n → Contains (range_with_len 0 n) k
in_range n k less =
    let len = length-range_with_len 0 n in
    let at : get_or (range_with_len 0 n) k k ≡ 0 + k = get_or-range_with_len 0 n k k less in
    (k, omega arith, omega arith)

range_below : (n k : ℕ) → Contains (range_with_len 0 n) k → k < n
range_below n k c =
    let len = length-range_with_len 0 n in
    let less : c.0 < n = omega (arith, c.1) in
    let at : get_or (range_with_len 0 n) c.0 k ≡ 0 + c.0 = get_or-range_with_len 0 n c.0 k less in
    let is = c.2 in
    omega arith

-- at first each mask is what the instruction writes, and each instruction waits
pub begins : (p : Listing) (code : List Marked) (masks waiting : List ℕ) (count : ℕ) → code ≡ p.code → AreDestinations code (length code) masks
    → waiting ≡ range_with_len 0 count → count ≡ length masks → Spread p masks waiting
begins p code masks waiting count same d is counted = record {
  sized = sized;
  sound = λ i r h. elim (cases_lt i (length code)) [
    | inl less ↦
        let there = some_there code i less in
        record { place = i; comes = stay; at = there.0; is_there = subst (λ (c : List Marked). slice_get c i ≡ Some there.0) same there.1; writes = sym (d.exact i there.0 r less there.1) ∙ h }
    | inr past ↦ absurd (no_bits masks i r (omega (arith, d.sized)) h)
  ];
  written = λ i m r there h.
      let here : slice_get code i ≡ Some m = subst (λ (c : List Marked). slice_get c i ≡ Some m) (sym same) there in
      d.exact i m r (slice_get_within code i m here) here ∙ h;
  inside = λ i c.
      let less : i < count = range_below count i (subst (λ (xs : List ℕ). Contains xs i) is c) in
      omega (arith, sized);
  closed = λ i j r f h.
      let within : j < length p.code = f.within in
      inr (subst (λ (xs : List ℕ). Contains xs j) (sym is) (in_range count j (omega (arith, sized))));
}
  where
    sized : length masks ≡ length p.code
    sized = d.sized ∙ ap (λ (c : List Marked). length c) same

-- the sources of an instruction are instructions
pub sources_inside : (p : Listing) (n : ℕ) (lists : List (List ℕ)) (sources masks : List ℕ) (j : ℕ) → AreLeading p n lists → sources ≡ sources_of lists j → length masks ≡ length p.code
    → All (λ i. i < length masks) sources
sources_inside p n lists sources masks j leading is sized k d less =
    let f = ((leading.exact (get_or sources k d) j).0 (subst (λ (xs : List ℕ). Contains xs (get_or sources k d)) is (Contains-get_or sources k d less))).1 in
    let e : Edge p false (get_or sources k d) j = f.edge in
    let within = slice_get_within p.code (get_or sources k d) e.at e.is_there in
    omega (arith, sized)

-- one instruction is taken, and its mask put into those of its sources
pub spreads_on : (p : Listing) (lists : List (List ℕ)) (masks masks' waiting rest waiting' : List ℕ) (j : ℕ)
    → waiting ≡ rest ++ j ∷ [] → AreLeading p (length p.code) lists → Widened (sources_of lists j) (get_or masks j 0) masks masks' rest waiting'
    → Spread p masks waiting → Spread p masks' waiting'
spreads_on p lists masks masks' waiting rest waiting' j is leading w s = record {
  sized = w.sized ∙ s.sized;
  sound = λ i r h. elim (w.only i r h) [
    | inl was ↦ s.sound i r was
    | inr k ↦ writes_before p i j r ((leading.exact i j).0 k.0).1.edge (s.sound j r k.1)
  ];
  written = λ i m r there h. w.kept i r (s.written i m r there h);
  inside = λ i c. elim (w.waits_inside i c) [
    | inl was ↦ s.inside i (subst (λ (xs : List ℕ). Contains xs i) (sym is) (Contains-append_left rest (j ∷ []) i was))
    | inr less ↦ subst (λ (n : ℕ). i < n) s.sized less
  ];
  closed = λ i k r f h. elim (w.waits k r h) [
    | inl was ↦ carried i k r f was (s.closed i k r f was)
    | inr waits ↦ inr waits
  ];
}
  where
    from_taken : (i k r : ℕ) → Follows p i k → may masks k r → j ≡ k → may masks' i r
    from_taken i k r f h same =
        w.has_it i r ((leading.exact i j).1 (slice_get_within p.code i f.edge.at f.edge.is_there, subst (λ (n : ℕ). Follows p i n) (sym same) f))
        (subst (λ (n : ℕ). may masks n r) (sym same) h)

    carried : (i k r : ℕ) → Follows p i k → may masks k r → may masks i r ⊎ Contains waiting k → may masks' i r ⊎ Contains waiting' k
    carried i k r f h (inl has_it) = inl (w.kept i r has_it)
    carried i k r f h (inr c) = elim (Contains-push_cases rest j k (subst (λ (xs : List ℕ). Contains xs k) is c)) [
      | inl waits ↦ inr (w.still_waits k waits)
      | inr same ↦ inl (from_taken i k r f h same)
    ]

pub less_to_do : (masks masks' waiting rest waiting' : List ℕ) (j mask : ℕ) (sources : List ℕ) → waiting ≡ rest ++ j ∷ []
    → Widened sources mask masks masks' rest waiting' → left_to_do masks' waiting' < left_to_do masks waiting
less_to_do masks masks' waiting rest waiting' j mask sources is w =
    let len : length waiting ≡ length rest + 1 = ap (λ (xs : List ℕ). length xs) is ∙ length-append rest (j ∷ []) in
    let less : left_to_do masks' waiting' ≤ left_to_do masks rest = w.no_more_to_do in
    omega arith

-- nothing waits: along a path masks only shrink
shrinks : (p : Listing) (masks : List ℕ) (i j r : ℕ) → Spread p masks [] → Path p i j → j < length p.code → may masks j r → may masks i r
shrinks p masks i j r s stay within h = h
shrinks p masks i k r s (onward {j = j} path e) within h =
    shrinks p masks i j r s path (slice_get_within p.code j e.at e.is_there) (held (s.closed j k r (record { edge = e; within = within }) h))
  where
    held : may masks j r ⊎ Contains [] k → may masks j r
    held (inl m) = m
    held (inr c) = absurd (omega (arith, c.1))

pub spread_ends : (p : Listing) (masks : List ℕ) → Spread p masks [] → AreExact p masks
spread_ends p masks s = record {
  sized = s.sized;
  exact = λ i r. (
    λ h. s.sound i r h,
    λ w. shrinks p masks i w.place r s w.comes (slice_get_within p.code w.place w.at w.is_there) (s.written w.place w.at r w.is_there w.writes),
  );
}

-- the loops that fill the first masks and the first work
pub destinations_none : (code : List Marked) (masks : List ℕ) → masks ≡ [] → AreDestinations code 0 masks
destinations_none code masks is = record { sized = ap (λ (xs : List ℕ). length xs) is; exact = λ i m r less there. absurd (omega arith) }

pub destinations_more : (code : List Marked) (n : ℕ) (masks masks' : List ℕ) (m : Marked) (set : ℕ) → masks' ≡ masks ++ set ∷ [] → slice_get code n ≡ Some m
    → ((r : ℕ) → has set r ≡ dests m.op r) → AreDestinations code n masks → AreDestinations code (n + 1) masks'
destinations_more code n masks masks' m set is there members d = record {
  sized = ap (λ (xs : List ℕ). length xs) is ∙ length-append masks (set ∷ []) ∙ ap (λ (k : ℕ). k + 1) d.sized;
  exact = λ i m' r less there'. elim (cases_lt i n) [
    | inl before ↦ ap (λ (k : ℕ). has k r) (ap (λ (xs : List ℕ). get_or xs i 0) is ∙ get_or_append_left masks (set ∷ []) 0 i (omega (arith, d.sized))) ∙ d.exact i m' r before there'
    | inr last ↦
        let here : n ≡ i = omega arith in
        let same : m ≡ m' = same_there i m' here there' in
        ap (λ (k : ℕ). has k r) (ap (λ (xs : List ℕ). get_or xs i 0) is ∙ get_or_push masks set 0 i (d.sized ∙ here)) ∙ members r ∙ ap (λ (x : Marked). dests x.op r) same
  ];
}
  where
    same_there : (i : ℕ) (m' : Marked) → n ≡ i → slice_get code i ≡ Some m' → m ≡ m'
    same_there i m' here there' = let at : slice_get code n ≡ Some m' = subst (λ (k : ℕ). slice_get code k ≡ Some m') (sym here) there' in cc (at, there)

pub range_more : (n : ℕ) → range_with_len 0 (n + 1) ≡ range_with_len 0 n ++ n ∷ []
range_more n =
    let id : ℕ → ℕ = λ (k : ℕ). k in
    sym (map-id (range_with_len 0 (n + 1))) ∙ map-range_with_len_more id 0 n n (omega arith) ∙ ap (λ (xs : List ℕ). xs ++ n ∷ []) (map-id (range_with_len 0 n))
