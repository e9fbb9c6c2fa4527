-- A search: it begins with no mark, each step keeps what a search is, and when nothing waits, what is marked is
-- what is come to.
use Rattle.std.proofs.Common.{◌≡◌, ℕ, ◌+◌, ◌*◌, ◌<◌, ◌≤◌, ◌≢◌, ◌⊎◌, ◌↔◌, Bool, true, false, if◌then◌else◌, Option, Some, None, List, [], ◌∷◌, ◌++◌, length, get_or, set, slice_get, replicate, refl, sym, ◌∙◌, ap, subst, inl, inr, arith, length-append, zero, suc}
use Rattle.std.specs.Prelude.{Contains, sum_by, slice_set, slice_index_or}
use Rattle.std.proofs.lemmas.Bool.{cases_eq, cases_Bool, or_cases, or_left, or_right, eq-eqb, eqb-true}
use Rattle.std.proofs.lemmas.List.{get_or-set_same, get_or-set_other, length-set, length-replicate}
use Rattle.std.proofs.lemmas.List.Elements.{Contains-append_left, Contains-push, Contains-push_cases}
use Rattle.std.proofs.lemmas.List.Sums.{sum_by-set}
use Rattle.std.proofs.lemmas.Option.{slice_get_within}
use Rattle.task_descriptor.specs.Listing.{Listing}
use Rattle.task_graph.specs.declared.edges.Next.{Next}
use Rattle.task_graph.specs.Edges.{Path, stay, onward}
use Rattle.task_graph.specs.Neighbours.{Follows, is_among, is_it}
use Rattle.task_graph.specs.Members.{Reaches}
use Rattle.task_graph.specs.SearchSteps.{is_marked, mark_of, work_of, Search}

-- marks
pub marked_within : (marks : List Bool) (i : ℕ) → is_marked marks i ≡ true → i < length marks
marked_within [] zero h = absurd (cc)
marked_within [] (suc i) h = absurd (cc)
marked_within (m ∷ ms) zero h = omega arith
marked_within (m ∷ ms) (suc i) h = omega (arith, marked_within ms i h)

pub marked_new : (marks : List Bool) (j : ℕ) → j < length marks → is_marked (slice_set marks j true) j ≡ true
marked_new marks j h = get_or-set_same marks j true false h

pub marked_kept : (marks : List Bool) (j k : ℕ) → j < length marks → is_marked marks k ≡ true → is_marked (slice_set marks j true) k ≡ true
marked_kept marks j k h is = elim (cases_eq k j) [
  | inl e ↦ subst (λ n. is_marked (slice_set marks j true) n ≡ true) (sym e) (marked_new marks j h)
  | inr ne ↦ get_or-set_other marks j k true false ne ∙ is
]

pub marked_old : (marks : List Bool) (j k : ℕ) → is_marked (slice_set marks j true) k ≡ true → (k ≡ j) ⊎ (is_marked marks k ≡ true)
marked_old marks j k is = elim (cases_eq k j) [
  | inl e ↦ inl e
  | inr ne ↦ inr (sym (get_or-set_other marks j k true false ne) ∙ is)
]

-- nothing is marked at first
pub unmarked_first : (n i : ℕ) → is_marked (replicate n false) i ≡ true → ⊥
unmarked_first zero zero h = cc
unmarked_first zero (suc i) h = cc
unmarked_first (suc n) zero h = cc
unmarked_first (suc n) (suc i) h = unmarked_first n i h

pub asked : (index : Option ℕ) (marks : List Bool) (j : ℕ) → j < length marks → index ≡ Some j → is_marked (mark_of index marks) j ≡ true
asked None marks j h e = absurd (cc)
asked (Some k) marks j h e =
    let same : k ≡ j = cc in subst (λ n. is_marked (slice_set marks n true) j ≡ true) (sym same) (marked_new marks j h)

pub stays : (index : Option ℕ) (marks : List Bool) (k : ℕ) → ((j : ℕ) → index ≡ Some j → j < length marks) → is_marked marks k ≡ true → is_marked (mark_of index marks) k ≡ true
stays None marks k h is = is
stays (Some j) marks k h is = marked_kept marks j k (h j refl) is

pub length-mark_of : (o : Option ℕ) (marks : List Bool) → length (mark_of o marks) ≡ length marks
length-mark_of None marks = refl
length-mark_of (Some k) marks = length-set marks k true

-- the work
work_kept : (b : Bool) (work : List ℕ) (j k : ℕ) → Contains work k → Contains (if b then work else work ++ j ∷ []) k
work_kept true work j k h = h
work_kept false work j k h = Contains-append_left work (j ∷ []) k h

work_new : (b : Bool) (work : List ℕ) (j k : ℕ) → Contains (if b then work else work ++ j ∷ []) k → Contains work k ⊎ (j ≡ k)
work_new true work j k h = inl h
work_new false work j k h = Contains-push_cases work j k h

work_has : (b : Bool) (work : List ℕ) (j : ℕ) → b ≡ false → Contains (if b then work else work ++ j ∷ []) j
work_has true work j h = absurd (cc)
work_has false work j h = Contains-push work j

-- what is left to do: two for each index without a mark, and one for each that waits
abbrev pub unmarked : List Bool → ℕ
unmarked marks = sum_by (λ m. if m then 0 else 1) marks

abbrev pub left_to_do : List Bool → List ℕ → ℕ
left_to_do marks work = 2 * unmarked marks + length work

work_grows : (b : Bool) (marks : List Bool) (work : List ℕ) (j : ℕ) → is_marked marks j ≡ b → j < length marks
    → 2 * unmarked (slice_set marks j true) + length (if b then work else work ++ j ∷ []) ≤ 2 * unmarked marks + length work
work_grows true marks work j e h =
    omega (arith, sum_by-set (λ (m : Bool). if m then 0 else 1) marks j true false h)
work_grows false marks work j e h =
    let one : ℕ = 1 in
    let was : (if is_marked marks j then 0 else one) ≡ one = ap (λ (b : Bool). if b then 0 else 1) e in
    omega (arith, sum_by-set (λ (m : Bool). if m then 0 else 1) marks j true false h, was, length-append work (j ∷ []))

pub no_more_work : (index : Option ℕ) (marks : List Bool) (work : List ℕ) → ((j : ℕ) → index ≡ Some j → j < length marks)
    → left_to_do (mark_of index marks) (work_of index marks work) ≤ left_to_do marks work
no_more_work None marks work h = omega arith
no_more_work (Some j) marks work h = work_grows (is_marked marks j) marks work j refl (h j refl)

-- an index leads to the two indices, and to no other
abbrev pub IsNext : (Leads : (from to : ℕ) → Type 0) → ℕ → Next → Type 0
IsNext Leads i next = (j : ℕ) → (is_among next j ≡ true) ↔ Leads i j

pub it : (o : Option ℕ) (j : ℕ) → o ≡ Some j → is_it o j ≡ true
it None j e = absurd (cc)
it (Some k) j e = eq-eqb k j (cc)

pub that : (o : Option ℕ) (j : ℕ) → is_it o j ≡ true → o ≡ Some j
that None j e = absurd (cc)
that (Some k) j e = ap (λ n. Some n) (eqb-true k j e)

pub first_leads : (Leads : (from to : ℕ) → Type 0) (i : ℕ) (next : Next) → IsNext Leads i next → (j : ℕ) → next.first ≡ Some j → Leads i j
first_leads Leads i next exact j e = (exact j).0 (or_left (is_it next.first j) (is_it next.second j) (it next.first j e))

pub second_leads : (Leads : (from to : ℕ) → Type 0) (i : ℕ) (next : Next) → IsNext Leads i next → (j : ℕ) → next.second ≡ Some j → Leads i j
second_leads Leads i next exact j e = (exact j).0 (or_right (is_it next.first j) (is_it next.second j) (it next.second j e))

-- an inner successor is an instruction
pub first_inside : (p : Listing) (i n : ℕ) (next : Next) → IsNext (Follows p) i next → n ≡ length p.code → (j : ℕ) → next.first ≡ Some j → j < n
first_inside p i n next exact sized j e = subst (λ m. j < m) (sym sized) (first_leads (Follows p) i next exact j e).within

pub second_inside : (p : Listing) (i n : ℕ) (next : Next) → IsNext (Follows p) i next → n ≡ length p.code → (j : ℕ) → next.second ≡ Some j → j < n
second_inside p i n next exact sized j e = subst (λ m. j < m) (sym sized) (second_leads (Follows p) i next exact j e).within

-- where a search comes, and where it goes on from there, lies below the bound
pub record Way (bound : ℕ) (Comes : ℕ → Type 0) (Leads : (from to : ℕ) → Type 0) : Type 0 where
  pub comes_within : (i : ℕ) → Comes i → i < bound
  pub leads_within : (i j : ℕ) → Leads i j → j < bound
  pub comes_on : (i j : ℕ) → Comes i → Leads i j → Comes j

module _ {bound : ℕ} {Comes : ℕ → Type 0} {Leads : (from to : ℕ) → Type 0} (way : Way bound Comes Leads) where
  abbrev pub Searching : List Bool → List ℕ → Option ℕ → Type 0
  Searching marks work busy = Search bound Comes Leads marks work busy

  pub search_begins : (none : List Bool) (empty : List ℕ) → none ≡ replicate bound false → empty ≡ [] → Searching none empty None
  search_begins none empty en ee =
      subst (λ (ms : List Bool). Searching ms empty None) (sym en) (subst (λ (ws : List ℕ). Searching (replicate bound false) ws None) (sym ee) (record {
        sized = length-replicate bound false;
        sound = λ i m. absurd (unmarked_first bound i m);
        waiting = λ i c. absurd (omega (arith, c.1));
        closed = λ i j m f. absurd (unmarked_first bound i m);
      }))

  -- one index more is marked
  pub searches_on : (marks : List Bool) (work : List ℕ) (busy index : Option ℕ) → ((j : ℕ) → index ≡ Some j → Comes j)
      → Searching marks work busy → Searching (mark_of index marks) (work_of index marks work) busy
  searches_on marks work busy None comes s = s
  searches_on marks work busy (Some j) comes s = record {
    sized = length-set marks j true ∙ s.sized;
    sound = λ i is. elim (marked_old marks j i is) [
      | inl e ↦ subst Comes (sym e) (comes j refl)
      | inr was ↦ s.sound i was
    ];
    waiting = λ i has. elim (work_new (is_marked marks j) work j i has) [
      | inl was ↦ marked_kept marks j i within (s.waiting i was)
      | inr e ↦ subst (λ n. is_marked (slice_set marks j true) n ≡ true) e (marked_new marks j within)
    ];
    closed = λ i k is f. elim (marked_old marks j i is) [
      | inl e ↦ elim (cases_Bool (is_marked marks j)) [
        | inl was ↦ more i k (s.closed i k (subst (λ n. is_marked marks n ≡ true) (sym e) was) f)
        | inr fresh ↦ inr (inl (subst (Contains (work_of (Some j) marks work)) (sym e) (work_has (is_marked marks j) work j fresh)))
      ]
      | inr was ↦ more i k (s.closed i k was f)
    ];
  }
    where
      within : j < length marks
      within = subst (λ n. j < n) (sym s.sized) (way.comes_within j (comes j refl))

      more : (i k : ℕ) → (is_marked marks k ≡ true) ⊎ (Contains work i ⊎ (busy ≡ Some i))
          → (is_marked (slice_set marks j true) k ≡ true) ⊎ (Contains (work_of (Some j) marks work) i ⊎ (busy ≡ Some i))
      more i k (inl was) = inl (marked_kept marks j k within was)
      more i k (inr (inl waits)) = inr (inl (work_kept (is_marked marks j) work j i waits))
      more i k (inr (inr e)) = inr (inr e)

  -- an index is taken from the work
  takes : (marks : List Bool) (work rest : List ℕ) (i : ℕ) → work ≡ rest ++ i ∷ [] → Searching marks work None → Searching marks rest (Some i)
  takes marks work rest i is s = record {
    sized = s.sized;
    sound = s.sound;
    waiting = λ k has. s.waiting k (subst (λ (xs : List ℕ). Contains xs k) (sym is) (Contains-append_left rest (i ∷ []) k has));
    closed = λ k j m f. left k j (s.closed k j m f);
  }
    where
      left : (k j : ℕ) → (is_marked marks j ≡ true) ⊎ (Contains work k ⊎ (None ≡ Some k)) → (is_marked marks j ≡ true) ⊎ (Contains rest k ⊎ (Some i ≡ Some k))
      left k j (inl m) = inl m
      left k j (inr (inl has)) = elim (Contains-push_cases rest i k (subst (λ (xs : List ℕ). Contains xs k) is has)) [
        | inl r ↦ inr (inl r)
        | inr e ↦ inr (inr (ap (λ n. Some n) e))
      ]
      left k j (inr (inr e)) = absurd (cc)

  taken_comes : (marks : List Bool) (work rest : List ℕ) (i : ℕ) → work ≡ rest ++ i ∷ [] → Searching marks work None → Comes i
  taken_comes marks work rest i is s = s.sound i (s.waiting i (subst (λ (xs : List ℕ). Contains xs i) (sym is) (Contains-push rest i)))

  pub taken_within : (marks : List Bool) (work rest : List ℕ) (i : ℕ) → work ≡ rest ++ i ∷ [] → Searching marks work None → i < bound
  taken_within marks work rest i is s = way.comes_within i (taken_comes marks work rest i is s)

  -- it is done with
  done : (marks : List Bool) (work : List ℕ) (i : ℕ) → ((j : ℕ) → Leads i j → is_marked marks j ≡ true) → Searching marks work (Some i) → Searching marks work None
  done marks work i all s = record {
    sized = s.sized;
    sound = s.sound;
    waiting = s.waiting;
    closed = λ k j m f. left k j f (s.closed k j m f);
  }
    where
      left : (k j : ℕ) → Leads k j → (is_marked marks j ≡ true) ⊎ (Contains work k ⊎ (Some i ≡ Some k)) → (is_marked marks j ≡ true) ⊎ (Contains work k ⊎ (None ≡ Some k))
      left k j f (inl m) = inl m
      left k j f (inr (inl has)) = inr (inl has)
      left k j f (inr (inr e)) = let same : i ≡ k = cc in inl (all j (subst (λ n. Leads n j) (sym same) f))

  -- nothing waits: what is marked leads to what is marked
  pub all_led : (marks : List Bool) (i j : ℕ) → Searching marks [] None → is_marked marks i ≡ true → Leads i j → is_marked marks j ≡ true
  all_led marks i j s is f = elim (s.closed i j is f) [
    | inl m ↦ m
    | inr w ↦ absurd (nothing w)
  ]
    where
      nothing : Contains [] i ⊎ (None ≡ Some i) → ⊥
      nothing (inl c) = absurd (omega (arith, c.1))
      nothing (inr e) = cc

  -- One turn of the search takes an index from the work, and marks its successors.
  module _ (marks first second : List Bool) (i : ℕ) (next : Next) (exact : IsNext Leads i next)
      (first_is : first ≡ mark_of next.first marks) (second_is : second ≡ mark_of next.second first) (sized : length marks ≡ bound) where
    pub first_within : (j : ℕ) → next.first ≡ Some j → j < length marks
    first_within j e = subst (λ m. j < m) (sym sized) (way.leads_within i j (first_leads Leads i next exact j e))

    as_long : length first ≡ length marks
    as_long = ap length first_is ∙ length-mark_of next.first marks

    pub second_within : (j : ℕ) → next.second ≡ Some j → j < length first
    second_within j e = subst (λ m. j < m) (sym (as_long ∙ sized)) (way.leads_within i j (second_leads Leads i next exact j e))

    pub stays_marked : (k : ℕ) → is_marked marks k ≡ true → is_marked second k ≡ true
    stays_marked k is =
        let at_first : is_marked first k ≡ true = subst (λ (xs : List Bool). is_marked xs k ≡ true) (sym first_is) (stays next.first marks k first_within is) in
        subst (λ (xs : List Bool). is_marked xs k ≡ true) (sym second_is) (stays next.second first k second_within at_first)

    marked_both : (j : ℕ) → Leads i j → is_marked second j ≡ true
    marked_both j f =
        let inside : j < length marks = subst (λ n. j < n) (sym sized) (way.leads_within i j f) in
        subst (λ (xs : List Bool). is_marked xs j ≡ true) (sym second_is) (elim (or_cases (is_it next.first j) (is_it next.second j) ((exact j).1 f)) [
          | inl a ↦ stays next.second first j second_within
              (subst (λ (xs : List Bool). is_marked xs j ≡ true) (sym first_is) (asked next.first marks j inside (that next.first j a)))
          | inr b ↦ asked next.second first j (subst (λ n. j < n) (sym as_long) inside) (that next.second j b)
        ])

    module _ (work rest one two : List ℕ) (taken : work ≡ rest ++ i ∷ [])
        (one_is : one ≡ work_of next.first marks rest) (two_is : two ≡ work_of next.second first one) where
      pub goes_on : Searching marks work None → Searching second two None
      goes_on s = done second two i marked_both (again next.second first second one two second_is two_is
          (λ j e. way.comes_on i j comes (second_leads Leads i next exact j e))
          (again next.first marks first rest one first_is one_is (λ j e. way.comes_on i j comes (first_leads Leads i next exact j e))
          (takes marks work rest i taken s)))
        where
          comes : Comes i
          comes = taken_comes marks work rest i taken s

          again : (o : Option ℕ) (ms ms' : List Bool) (ws ws' : List ℕ) → ms' ≡ mark_of o ms → ws' ≡ work_of o ms ws → ((j : ℕ) → o ≡ Some j → Comes j)
              → Searching ms ws (Some i) → Searching ms' ws' (Some i)
          again o ms ms' ws ws' em ew c t =
              subst (λ (xs : List Bool). Searching xs ws' (Some i)) (sym em) (subst (λ (xs : List ℕ). Searching (mark_of o ms) xs (Some i)) (sym ew) (searches_on ms ws (Some i) o c t))

      pub less_to_do : left_to_do second two < left_to_do marks work
      less_to_do =
          let a : left_to_do (mark_of next.first marks) (work_of next.first marks rest) ≤ left_to_do marks rest = no_more_work next.first marks rest first_within in
          let b : left_to_do (mark_of next.second first) (work_of next.second first one) ≤ left_to_do first one = no_more_work next.second first one second_within in
          let ea : left_to_do first one ≡ left_to_do (mark_of next.first marks) (work_of next.first marks rest) = λ k. left_to_do (first_is k) (one_is k) in
          let eb : left_to_do second two ≡ left_to_do (mark_of next.second first) (work_of next.second first one) = λ k. left_to_do (second_is k) (two_is k) in
          let len : length work ≡ length rest + 1 = ap length taken ∙ length-append rest (i ∷ []) in
          omega arith

-- the search for what a path from the entry reaches
pub reaching : (p : Listing) (entry : ℕ) → Way (length p.code) (Reaches p entry) (Follows p)
reaching p entry = record {
  comes_within = λ i r. r.within;
  leads_within = λ i j f. f.within;
  comes_on = λ i j r f. record { path = onward r.path f.edge; within = f.within };
}

pub begins_at : (p : Listing) (entry : ℕ) (none marks : List Bool) (empty work : List ℕ)
    → none ≡ replicate (length p.code) false → empty ≡ []
    → marks ≡ mark_of (Some entry) none → work ≡ work_of (Some entry) none empty → entry < length p.code
    → (is_marked marks entry ≡ true) × Search (length p.code) (Reaches p entry) (Follows p) marks work None
begins_at p entry none marks empty work en ee em ew inside =
    let start = search_begins (reaching p entry) none empty en ee in
    let within : entry < length none = subst (λ n. entry < n) (sym start.sized) inside in (
      subst (λ (ms : List Bool). is_marked ms entry ≡ true) (sym em) (asked (Some entry) none entry within refl),
      subst (λ (ms : List Bool). Search (length p.code) (Reaches p entry) (Follows p) ms work None) (sym em)
          (subst (λ (ws : List ℕ). Search (length p.code) (Reaches p entry) (Follows p) (mark_of (Some entry) none) ws None) (sym ew)
          (searches_on (reaching p entry) none empty None (Some entry) (λ j e. let same : entry ≡ j = cc in subst (Reaches p entry) same (record { path = stay; within = inside })) start)),
    )

all_marked : (p : Listing) (entry k : ℕ) (marks : List Bool) → is_marked marks entry ≡ true → Search (length p.code) (Reaches p entry) (Follows p) marks [] None
    → Path p entry k → k < length p.code → is_marked marks k ≡ true
all_marked p entry k marks begun s stay within = begun
all_marked p entry k marks begun s (onward {j = j} path e) within =
    all_led (reaching p entry) marks j k s (all_marked p entry j marks begun s path (slice_get_within p.code j e.at e.is_there)) (record { edge = e; within = within })

pub search_ends : (p : Listing) (entry : ℕ) (marks : List Bool) → is_marked marks entry ≡ true → Search (length p.code) (Reaches p entry) (Follows p) marks [] None
    → (i : ℕ) → (is_marked marks i ≡ true) ↔ Reaches p entry i
search_ends p entry marks begun s i = (λ m. s.sound i m, λ r. all_marked p entry i marks begun s r.path r.within)
