-- A list made of the reached indices and their masks; and lists that rise have no fault.
use Rattle.annotator.proofs.Imports.{◌≡◌, ℕ, ◌+◌, ◌<◌, ◌≤◌, ◌↔◌, Bool, true, false, eqb, ltb, leb, Option, Some, None, List, [], ◌∷◌, ◌++◌, map, take, length, get_or, slice_get, refl, sym, ◌∙◌, ap, subst, arith, zero, suc, inl, inr, Contains, IsSome, is_some, All, IsStrictlyIncreasing, suc-add, cases_eq, cases_lt, eq-eqb, ne_eqb, le-ltb, lt-leb, cond-true, cond-false, get_or-map, length-map, map-append, get_or_append_left, get_or_push, length_push, All-map, All-head, All-tail, Contains-get_or, Contains-tail, slice_get_within, has, Listing, Descriptor, MayWrite, Reaches, list_of, mask_at, fault_in, first_fault, Rises, LeastList, IsLeast, AreExact}
use Rattle.std.specs.Option.{option_or}

-- the indices with their masks
abbrev pub entries_at : List ℕ → List ℕ → List (ℕ × ℕ)
entries_at masks xs = map (λ (k : ℕ). (k, get_or masks k 0)) xs

mask_there : (masks xs : List ℕ) (i : ℕ) → Contains xs i → mask_at (entries_at masks xs) i ≡ Some (get_or masks i 0)
mask_there masks [] i c = absurd (omega (arith, c.1))
mask_there masks (x ∷ xs) i c = elim (cases_eq x i) [
  | inl e ↦ cond-true (eqb x i) _ _ (eq-eqb x i e) ∙ ap (λ (n : ℕ). Some (get_or masks n 0)) e
  | inr ne ↦ cond-false (eqb x i) _ _ (ne_eqb x i ne) ∙ mask_there masks xs i (Contains-tail x xs i ne c)
]

record Entry (masks xs : List ℕ) (i mask : ℕ) : Type 0 where
  listed : Contains xs i
  is : mask ≡ get_or masks i 0

entry_there : (masks xs : List ℕ) (i mask : ℕ) → mask_at (entries_at masks xs) i ≡ Some mask → Entry masks xs i mask
entry_there masks [] i mask h = absurd (cc)
entry_there masks (x ∷ xs) i mask h = elim (cases_eq x i) [
  | inl e ↦
      let here : Some (get_or masks x 0) ≡ Some mask = sym (cond-true (eqb x i) _ _ (eq-eqb x i e)) ∙ h in
      record { listed = (0, omega arith, e); is = let same : mask ≡ get_or masks x 0 = cc in same ∙ ap (λ (n : ℕ). get_or masks n 0) e }
  | inr ne ↦
      let rest = entry_there masks xs i mask (sym (cond-false (eqb x i) _ _ (ne_eqb x i ne)) ∙ h) in
      let k = rest.listed in
      record { listed = (suc k.0, omega (arith, k.1), k.2); is = rest.is }
]

indices_of : (masks xs : List ℕ) → map (λ (e : ℕ × ℕ). e.0) (entries_at masks xs) ≡ xs
indices_of masks [] = refl
indices_of masks (x ∷ xs) = ap (λ (ys : List ℕ). x ∷ ys) (indices_of masks xs)

some_of : (o : Option ℕ) → is_some o ≡ true → (k : ℕ) × (o ≡ Some k)
some_of None h = absurd (cc)
some_of (Some k) h = (k, refl)

pub least_list : (p : Listing) (d : Descriptor) (masks xs : List ℕ) (list : List (ℕ × ℕ)) → list ≡ entries_at masks xs → AreExact p masks
    → IsStrictlyIncreasing xs → ((i : ℕ) → Contains xs i ↔ Reaches p d.entry i) → length p.code ≤ 4096 → LeastList p d list
least_list p d masks xs list is exact rising reach small =
    subst (λ (es : List (ℕ × ℕ)). LeastList p d es) (sym is) (record {
      rises = record {
        rising = subst (λ (ys : List ℕ). IsStrictlyIncreasing ys) (sym (indices_of masks xs)) rising;
        inside = All-map (λ (e : ℕ × ℕ). e.0 < 4096) (λ (k : ℕ). (k, get_or masks k 0)) xs (λ k x less.
            let within = ((reach (get_or xs k x)).0 (Contains-get_or xs k x less)).within in
            omega arith);
      };
      reached = λ i. (
        λ h. let k = some_of (mask_at (entries_at masks xs) i) h in (reach i).0 (entry_there masks xs i k.0 k.1).listed,
        λ r. ap (λ (o : Option ℕ). is_some o) (mask_there masks xs i ((reach i).1 r)),
      );
      exact = λ i mask r h.
          let same = (entry_there masks xs i mask h).is in (
            λ yes. (exact.exact i r).0 (sym (ap (λ (n : ℕ). has n r) same) ∙ yes),
            λ w. ap (λ (n : ℕ). has n r) same ∙ (exact.exact i r).1 w,
          );
    })

pub reached_inside : (p : Listing) (d : Descriptor) (xs items : List ℕ) (k : ℕ) → ((i : ℕ) → Contains xs i ↔ Reaches p d.entry i) → items ≡ xs → k < length items
    → get_or items k 0 < length p.code
reached_inside p d xs items k reach same less =
    ((reach (get_or items k 0)).0 (subst (λ (ys : List ℕ). Contains ys (get_or items k 0)) same (Contains-get_or items k 0 less))).within

pub entries_more : (masks xs ys : List ℕ) (list list' : List (ℕ × ℕ)) (i mask : ℕ) → ys ≡ xs ++ i ∷ [] → list' ≡ list ++ (i, mask) ∷ [] → mask ≡ get_or masks i 0
    → list ≡ entries_at masks xs → list' ≡ entries_at masks ys
entries_more masks xs ys list list' i mask more pushed is before =
    pushed ∙ (λ k. before k ++ (i, is k) ∷ []) ∙ sym (map-append (λ (k : ℕ). (k, get_or masks k 0)) xs (i ∷ [])) ∙ ap (λ (zs : List ℕ). entries_at masks zs) (sym more)

-- lists that rise have no fault
no_fault_in : (list : List (ℕ × ℕ)) (task place least : ℕ) → Rises list → (0 < length list → least ≤ get_or (map (λ e. e.0) list) 0 0) → fault_in task place least list ≡ None
no_fault_in [] task place least rises first = refl
no_fault_in (e ∷ es) task place least rises first =
    let low : least ≤ e.0 = first (omega arith) in
    let high : e.0 < 4096 = All-head (λ (x : ℕ × ℕ). x.0 < 4096) e es rises.inside in
    cond-false (ltb e.0 least) _ _ (le-ltb e.0 least low)
    ∙ cond-false (leb 4096 e.0) _ _ (lt-leb 4096 e.0 high)
    ∙ no_fault_in es task (place + 1) (e.0 + 1)
    (record { rising = tail_rises; inside = All-tail (λ (x : ℕ × ℕ). x.0 < 4096) e es rises.inside })
    (λ some. let next : e.0 < get_or (map (λ x. x.0) es) 0 0 = rises.rising 0 (omega (arith, length-map es (λ (x : ℕ × ℕ). x.0))) in omega arith)
  where
    indices : List ℕ
    indices = map (λ (x : ℕ × ℕ). x.0) es

    tail_rises : IsStrictlyIncreasing (map (λ (x : ℕ × ℕ). x.0) es)
    tail_rises k less =
        let h = rises.rising (suc k) (omega arith) in
        subst (λ (n : ℕ). get_or (map (λ (x : ℕ × ℕ). x.0) es) k 0 < get_or (e.0 ∷ map (λ (x : ℕ × ℕ). x.0) es) n 0) (suc-add k 1) h

pub no_fault : (lists : List (List (ℕ × ℕ))) (first : ℕ) → ((t : ℕ) → t < length lists → Rises (list_of lists t)) → first_fault first lists ≡ None
no_fault [] first rises = refl
no_fault (list ∷ lists) first rises =
    either (fault_in first 0 0 list) (first_fault (first + 1) lists) (no_fault_in list first 0 0 (rises 0 (omega arith)) (λ some. omega arith))
    (no_fault lists (first + 1) (λ t less. rises (suc t) (omega arith)))
  where
    either : {X : Type 0} (a b : Option X) → a ≡ None → b ≡ None → option_or a b ≡ None
    either None b e f = f
    either (Some x) b e f = absurd (cc)

pub some_task : (xs : List Descriptor) (i : ℕ) → i < length xs → (d : Descriptor) × (slice_get xs i ≡ Some d)
some_task [] i h = absurd (omega arith)
some_task (d ∷ ds) zero h = (d, refl)
some_task (d ∷ ds) (suc i) h = some_task ds i (omega arith)

-- the lists of the first tasks
pub record LeastBelow (p : Listing) (n : ℕ) (lists : List (List (ℕ × ℕ))) : Type 0 where
  pub sized : length lists ≡ n
  pub least : (t : ℕ) (d : Descriptor) → t < n → slice_get p.tasks t ≡ Some d → LeastList p d (list_of lists t)

pub below_none : (p : Listing) (lists : List (List (ℕ × ℕ))) → lists ≡ [] → LeastBelow p 0 lists
below_none p lists is = record { sized = ap (λ (xs : List (List (ℕ × ℕ))). length xs) is; least = λ t d less there. absurd (omega arith) }

pub below_more : (p : Listing) (n : ℕ) (lists lists' : List (List (ℕ × ℕ))) (list : List (ℕ × ℕ)) → lists' ≡ lists ++ list ∷ []
    → ((d : Descriptor) → slice_get p.tasks n ≡ Some d → LeastList p d list) → LeastBelow p n lists → LeastBelow p (n + 1) lists'
below_more p n lists lists' list is least b = record {
  sized = ap (λ (xs : List (List (ℕ × ℕ))). length xs) is ∙ length_push lists list ∙ ap (λ (k : ℕ). k + 1) b.sized;
  least = λ t d less there. elim (cases_lt t n) [
    | inl before ↦
        subst (λ (es : List (ℕ × ℕ)). LeastList p d es)
        (sym (ap (λ (xs : List (List (ℕ × ℕ))). list_of xs t) is ∙ get_or_append_left lists (list ∷ []) [] t (omega (arith, b.sized)))) (b.least t d before there)
    | inr last ↦
        let here : n ≡ t = omega arith in
        subst (λ (es : List (ℕ × ℕ)). LeastList p d es)
        (sym (ap (λ (xs : List (List (ℕ × ℕ))). list_of xs t) is ∙ get_or_push lists list [] t (b.sized ∙ here)))
        (least d (subst (λ (k : ℕ). slice_get p.tasks k ≡ Some d) (sym here) there))
  ];
}

pub below_rises : (p : Listing) (n t : ℕ) (lists : List (List (ℕ × ℕ))) → LeastBelow p n lists → n ≡ length p.tasks → t < length lists → Rises (list_of lists t)
below_rises p n t lists b end less =
    let inside : t < length p.tasks = omega (arith, b.sized) in
    let task = some_task p.tasks t inside in
    (b.least t task.0 (omega arith) task.1).rises

pub below_whole : (p : Listing) (n : ℕ) (lists cert : List (List (ℕ × ℕ))) → cert ≡ lists → n ≡ length p.tasks → LeastBelow p n lists → IsLeast p cert
below_whole p n lists cert is end b =
    subst (λ (ls : List (List (ℕ × ℕ))). IsLeast p ls) (sym is) (record {
      sized = b.sized ∙ end;
      least = λ t d there. b.least t d (subst (λ (k : ℕ). t < k) (sym end) (slice_get_within p.tasks t d there)) there;
    })
