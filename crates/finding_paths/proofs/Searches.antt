-- A search along edges: each mark is of a visit after the first; each inner successor of a visit that was
-- looked at is marked; and none that was looked at, after the first, is sought.
use Rattle.std.proofs.Common.{◌≡◌, ℕ, ◌+◌, ◌-◌, ◌<◌, ◌≤◌, ◌⊎◌, ◌↔◌, Bool, true, false, if◌then◌else◌, Option, Some, None, List, [], ◌∷◌, ◌++◌, length, get_or, slice_get, replicate, refl, sym, ◌∙◌, ap, subst, inl, inr, arith, length-append, zero, suc}
use Rattle.std.specs.Prelude.{sum_by, slice_set, IfSome, IfNone}
use Rattle.std.proofs.lemmas.Bool.{cases_eq, cases_Bool, or_cases}
use Rattle.std.proofs.lemmas.List.{length-set, length-replicate}
use Rattle.std.proofs.lemmas.List.Sums.{sum_by-set}
use Rattle.std.proofs.lemmas.Option.{slice_get_within, slice_get-get_or}
use Rattle.task_descriptor.specs.Listing.{Listing}
use Rattle.task_descriptor.specs.declared.descriptor.Marked.{Marked}
use Rattle.task_graph.specs.Edges.{Edge, Path, stay, onward}
use Rattle.task_graph.specs.declared.edges.Next.{Next}
use Rattle.task_graph.specs.Neighbours.{Follows, is_it}
use Rattle.task_graph.specs.SearchSteps.{is_marked}
use Rattle.task_graph.proofs.Searches.{marked_new, marked_kept, marked_old, unmarked_first, unmarked, IsNext, first_leads, second_leads, first_inside, second_inside, that}
use Rattle.finding_paths.specs.declared.sought.Sought.{Sought}
use Rattle.finding_paths.specs.declared.visits.Visit.{Visit}
use Rattle.finding_paths.specs.Witnesses.{is_sought, is_sought_at, ListsPath, Onward, LeadsTo, LeadsOnward}
use Rattle.finding_paths.specs.Visits.{AreVisits, marks_with, visits_with}
use Rattle.finding_paths.proofs.Trails.{step, earlier_number}

-- a visit of the index stands in the list at the number
pub record StandsAt (visits : List Visit) (number index : ℕ) : Type 0 where
  pub visit : Visit
  pub is_there : slice_get visits number ≡ Some visit
  pub same : visit.index ≡ index

-- a visit of the index that came from the visit of the number, or from an earlier one
pub record Came (visits : List Visit) (number index : ℕ) : Type 0 where
  pub place : ℕ
  pub visit : Visit
  pub is_there : slice_get visits (suc place) ≡ Some visit
  pub same : visit.index ≡ index
  pub no_later : visit.from ≤ number

pub record Search (p : Listing) (start : ℕ) (sought : Sought) (marks : List Bool) (visits : List Visit) (number : ℕ) : Type 0 where
  pub sized : length marks ≡ length p.code
  pub begun : StandsAt visits 0 start
  pub are : AreVisits p start visits
  pub inside : (k : ℕ) (v : Visit) → slice_get visits k ≡ Some v → v.index < length p.code
  pub listed : (j : ℕ) → is_marked marks j ≡ true → (k : ℕ) × StandsAt visits (suc k) j
  pub closed : (k j : ℕ) (v : Visit) → k < number → slice_get visits k ≡ Some v → Follows p v.index j → Came visits k j
  pub in_order : (k l : ℕ) (u v : Visit) → k ≤ l → slice_get visits (suc k) ≡ Some u → slice_get visits (suc l) ≡ Some v → u.from ≤ v.from
  pub so_far : (k : ℕ) (v : Visit) → slice_get visits (suc k) ≡ Some v → v.from ≤ number
  pub unmet : (k : ℕ) (v : Visit) → suc k < number → slice_get visits (suc k) ≡ Some v → is_sought p sought v.index ≡ false

-- lists
push_cases : (xs : List Visit) (x v : Visit) (k : ℕ) → slice_get (xs ++ x ∷ []) k ≡ Some v → (slice_get xs k ≡ Some v) ⊎ ((k ≡ length xs) × (x ≡ v))
push_cases [] x v zero h = inr (refl, cc)
push_cases [] x v (suc k) h = absurd (cc)
push_cases (y ∷ ys) x v zero h = inl h
push_cases (y ∷ ys) x v (suc k) h = elim (push_cases ys x v k h) [
  | inl a ↦ inl a
  | inr b ↦ inr (let e : k ≡ length ys = b.0 in omega arith, b.1)
]

kept : (xs ys : List Visit) (v : Visit) (k : ℕ) → slice_get xs k ≡ Some v → slice_get (xs ++ ys) k ≡ Some v
kept [] ys v k h = absurd (cc)
kept (x ∷ xs) ys v zero h = h
kept (x ∷ xs) ys v (suc k) h = kept xs ys v k h

pushed : (xs : List Visit) (x : Visit) → slice_get (xs ++ x ∷ []) (length xs) ≡ Some x
pushed [] x = refl
pushed (y ∷ ys) x = pushed ys x

still : (xs ys : List Visit) (u v : Visit) (k : ℕ) → slice_get xs k ≡ Some u → slice_get (xs ++ ys) k ≡ Some v → u ≡ v
still xs ys u v k h g = let also = kept xs ys u k h in cc

pub search_begins : (p : Listing) (start : ℕ) (sought : Sought) (marks : List Bool) (visits : List Visit)
    → marks ≡ replicate (length p.code) false → visits ≡ record { index = start; from = 0 } ∷ [] → start < length p.code
    → Search p start sought marks visits 0
search_begins p start sought marks visits em ev inside =
    let first : Visit = record { index = start; from = 0 } in
    subst (λ (xs : List Bool). Search p start sought xs visits 0) (sym em)
    (subst (λ (vs : List Visit). Search p start sought (replicate (length p.code) false) vs 0) (sym ev) (record {
      sized = length-replicate (length p.code) false;
      begun = record { visit = first; is_there = refl; same = refl };
      are = record {
        first = λ v h. let same : first ≡ v = cc in ap (λ (x : Visit). x.index) (sym same);
        earlier = λ k v h. absurd (cc);
        along = λ k u v h g. absurd (cc);
      };
      inside = λ k v h. elim (push_cases [] first v k h) [
        | inl a ↦ absurd (cc)
        | inr b ↦ subst (λ (x : Visit). x.index < length p.code) b.1 inside
      ];
      listed = λ j m. absurd (unmarked_first (length p.code) j m);
      closed = λ k j v less. absurd (omega arith);
      in_order = λ k l u v le h. absurd (cc);
      so_far = λ k v h. absurd (cc);
      unmet = λ k v less. absurd (omega arith);
    }))

came_on : (xs ys : List Visit) (number index : ℕ) → Came xs number index → Came (xs ++ ys) number index
came_on xs ys number index c = record {
  place = c.place;
  visit = c.visit;
  is_there = kept xs ys c.visit (suc c.place) c.is_there;
  same = c.same;
  no_later = c.no_later;
}

-- an inner successor of the visit at hand is visited
fresh : (p : Listing) (start : ℕ) (sought : Sought) (marks : List Bool) (visits : List Visit) (number j : ℕ) (u : Visit)
    → slice_get visits number ≡ Some u → Follows p u.index j → Search p start sought marks visits number
    → Search p start sought (slice_set marks j true) (visits ++ record { index = j; from = number } ∷ []) number
fresh p start sought marks visits number j u there f s = record {
  sized = length-set marks j true ∙ s.sized;
  begun = record { visit = s.begun.visit; is_there = kept visits (new ∷ []) s.begun.visit 0 s.begun.is_there; same = s.begun.same };
  are = record {
    first = λ v h. s.are.first v (s.begun.is_there ∙ ap (λ (x : Visit). Some x) (still visits (new ∷ []) s.begun.visit v 0 s.begun.is_there h));
    earlier = λ k v h. elim (push_cases visits new v (suc k) h) [
      | inl a ↦ s.are.earlier k v a
      | inr b ↦ let from : number ≡ v.from = ap (λ (x : Visit). x.from) b.1 in let e : suc k ≡ length visits = b.0 in omega (arith, here)
    ];
    along = λ k w v h g. elim (push_cases visits new v (suc k) h) [
      | inl a ↦ s.are.along k w v a (back v.from w (let e = s.are.earlier k v a in let i = slice_get_within visits (suc k) v a in omega arith) g)
      | inr b ↦
          let from : number ≡ v.from = ap (λ (x : Visit). x.from) b.1 in
          let index : j ≡ v.index = ap (λ (x : Visit). x.index) b.1 in
          let same : u ≡ w = still visits (new ∷ []) u w number there (subst (λ n. slice_get (visits ++ new ∷ []) n ≡ Some w) (sym from) g) in
          subst (λ n. Edge p false w.index n) index (subst (λ (x : Visit). Edge p false x.index j) same f.edge)
    ];
  };
  inside = λ k v h. elim (push_cases visits new v k h) [
    | inl a ↦ s.inside k v a
    | inr b ↦ subst (λ (x : Visit). x.index < length p.code) b.1 f.within
  ];
  listed = λ i m. elim (marked_old marks j i m) [
    | inl e ↦ last i (sym e) (length visits) refl here
    | inr was ↦ let k = s.listed i was in
        (k.0, record { visit = k.1.visit; is_there = kept visits (new ∷ []) k.1.visit (suc k.0) k.1.is_there; same = k.1.same })
  ];
  closed = λ k i v less h g. came_on visits (new ∷ []) k i (s.closed k i v less (back k v (omega (arith, here)) h) g);
  in_order = λ k l w v le h g. elim (push_cases visits new v (suc l) g) [
    | inl a ↦ s.in_order k l w v le (back (suc k) w (let i = slice_get_within visits (suc l) v a in omega arith) h) a
    | inr b ↦ let from : number ≡ v.from = ap (λ (x : Visit). x.from) b.1 in let sooner = so_far k w h in omega arith
  ];
  so_far = so_far;
  unmet = λ k v less h. s.unmet k v less (back (suc k) v (omega (arith, here)) h);
}
  where
    new : Visit
    new = record { index = j; from = number }

    here : number < length visits
    here = slice_get_within visits number u there

    back : (k : ℕ) (v : Visit) → k < length visits → slice_get (visits ++ new ∷ []) k ≡ Some v → slice_get visits k ≡ Some v
    back k v less h = elim (push_cases visits new v k h) [
      | inl a ↦ a
      | inr b ↦ let e : k ≡ length visits = b.0 in absurd (omega arith)
    ]

    so_far : (k : ℕ) (v : Visit) → slice_get (visits ++ new ∷ []) (suc k) ≡ Some v → v.from ≤ number
    so_far k v h = elim (push_cases visits new v (suc k) h) [
      | inl a ↦ s.so_far k v a
      | inr b ↦ let from : number ≡ v.from = ap (λ (x : Visit). x.from) b.1 in omega arith
    ]

    last : (i : ℕ) → j ≡ i → (n : ℕ) → n ≡ length visits → number < n → (k : ℕ) × StandsAt (visits ++ new ∷ []) (suc k) i
    last i e zero is some = absurd (omega arith)
    last i e (suc k) is some = (k, record { visit = new; is_there = subst (λ n. slice_get (visits ++ new ∷ []) n ≡ Some new) (sym is) (pushed visits new); same = e })

by_mark : (p : Listing) (start : ℕ) (sought : Sought) (marks : List Bool) (visits : List Visit) (number j : ℕ) (u : Visit) (b : Bool)
    → slice_get visits number ≡ Some u → Follows p u.index j → Search p start sought marks visits number
    → Search p start sought (if b then marks else slice_set marks j true) (if b then visits else visits ++ record { index = j; from = number } ∷ []) number
by_mark p start sought marks visits number j u true there f s = s
by_mark p start sought marks visits number j u false there f s = fresh p start sought marks visits number j u there f s

pub visited : (p : Listing) (start : ℕ) (sought : Sought) (marks more : List Bool) (visits on : List Visit) (number : ℕ) (u : Visit) (index : Option ℕ)
    → more ≡ marks_with index marks → on ≡ visits_with index number marks visits
    → slice_get visits number ≡ Some u → ((j : ℕ) → index ≡ Some j → Follows p u.index j) → Search p start sought marks visits number
    → Search p start sought more on number
visited p start sought marks more visits on number u index em ev there follows s =
    subst (λ (xs : List Bool). Search p start sought xs on number) (sym em)
    (subst (λ (vs : List Visit). Search p start sought (marks_with index marks) vs number) (sym ev) (each index follows))
  where
    each : (o : Option ℕ) → ((j : ℕ) → o ≡ Some j → Follows p u.index j) → Search p start sought (marks_with o marks) (visits_with o number marks visits) number
    each None g = s
    each (Some j) g = by_mark p start sought marks visits number j u (is_marked marks j) there (g j refl) s

-- what is there stays
kept_if : (b : Bool) (visits : List Visit) (new : Visit) (k : ℕ) (u : Visit) → slice_get visits k ≡ Some u → slice_get (if b then visits else visits ++ new ∷ []) k ≡ Some u
kept_if true visits new k u h = h
kept_if false visits new k u h = kept visits (new ∷ []) u k h

pub still_there : (marks : List Bool) (visits on : List Visit) (number k : ℕ) (u : Visit) (index : Option ℕ)
    → on ≡ visits_with index number marks visits → slice_get visits k ≡ Some u → slice_get on k ≡ Some u
still_there marks visits on number k u None e h = subst (λ (vs : List Visit). slice_get vs k ≡ Some u) (sym e) h
still_there marks visits on number k u (Some j) e h =
    subst (λ (vs : List Visit). slice_get vs k ≡ Some u) (sym e) (kept_if (is_marked marks j) visits (record { index = j; from = number }) k u h)

marked_if : (b : Bool) (marks : List Bool) (j k : ℕ) → j < length marks → is_marked marks k ≡ true → is_marked (if b then marks else slice_set marks j true) k ≡ true
marked_if true marks j k h is = is
marked_if false marks j k h is = marked_kept marks j k h is

asked_if : (b : Bool) (marks : List Bool) (j : ℕ) → is_marked marks j ≡ b → j < length marks → is_marked (if b then marks else slice_set marks j true) j ≡ true
asked_if true marks j is h = is
asked_if false marks j is h = marked_new marks j h

pub still_marked : (marks more : List Bool) (k : ℕ) (index : Option ℕ) → more ≡ marks_with index marks
    → ((j : ℕ) → index ≡ Some j → j < length marks) → is_marked marks k ≡ true → is_marked more k ≡ true
still_marked marks more k None e h is = subst (λ (xs : List Bool). is_marked xs k ≡ true) (sym e) is
still_marked marks more k (Some j) e h is =
    subst (λ (xs : List Bool). is_marked xs k ≡ true) (sym e) (marked_if (is_marked marks j) marks j k (h j refl) is)

pub asked : (marks more : List Bool) (j : ℕ) (index : Option ℕ) → more ≡ marks_with index marks
    → ((k : ℕ) → index ≡ Some k → k < length marks) → index ≡ Some j → is_marked more j ≡ true
asked marks more j None e h is = absurd (cc)
asked marks more j (Some i) e h is =
    let same : i ≡ j = cc in
    subst (λ n. is_marked more n ≡ true) same
    (subst (λ (xs : List Bool). is_marked xs i ≡ true) (sym e) (asked_if (is_marked marks i) marks i refl (h i refl)))

-- the visit at hand has been looked at
pub looked_at : (p : Listing) (start : ℕ) (sought : Sought) (marks : List Bool) (visits : List Visit) (number : ℕ) (u : Visit)
    → slice_get visits number ≡ Some u → ((j : ℕ) → Follows p u.index j → is_marked marks j ≡ true)
    → ((k : ℕ) → number ≡ suc k → is_sought p sought u.index ≡ false)
    → Search p start sought marks visits number → Search p start sought marks visits (number + 1)
looked_at p start sought marks visits number u there marked unmet s = record {
  sized = s.sized;
  begun = s.begun;
  are = s.are;
  inside = s.inside;
  listed = s.listed;
  closed = λ k j v less h f. elim (cases_eq k number) [
    | inl e ↦
        let same : u ≡ v = one k v e h in
        let found = s.listed j (marked j (subst (λ (x : Visit). Follows p x.index j) (sym same) f)) in
        subst (λ n. Came visits n j) (sym e) (record {
          place = found.0;
          visit = found.1.visit;
          is_there = found.1.is_there;
          same = found.1.same;
          no_later = s.so_far found.0 found.1.visit found.1.is_there;
        })
    | inr ne ↦ s.closed k j v (omega arith) h f
  ];
  in_order = s.in_order;
  so_far = λ k v h. let sooner = s.so_far k v h in omega arith;
  unmet = λ k v less h. elim (cases_eq (suc k) number) [
    | inl e ↦
        let same : u ≡ v = one (suc k) v e h in
        subst (λ (x : Visit). is_sought p sought x.index ≡ false) same (unmet k (sym e))
    | inr ne ↦ s.unmet k v (omega arith) h
  ];
}
  where
    one : (k : ℕ) (v : Visit) → k ≡ number → slice_get visits k ≡ Some v → u ≡ v
    one k v e h = let at = subst (λ n. slice_get visits n ≡ Some v) e h in cc

-- all visits were looked at: nothing that a path comes to is sought
reached : (p : Listing) (start : ℕ) (sought : Sought) (marks : List Bool) (visits : List Visit) (number j : ℕ) → length visits ≤ number
    → Search p start sought marks visits number → Path p start j → j < length p.code → (k : ℕ) × StandsAt visits k j
reached p start sought marks visits number j all s stay within = (0, s.begun)
reached p start sought marks visits number j all s (onward {j = i} path e) within =
    let k = reached p start sought marks visits number i all s path (slice_get_within p.code i e.at e.is_there) in
    let less = slice_get_within visits k.0 k.1.visit k.1.is_there in
    let from = subst (λ n. Edge p false n j) (sym k.1.same) e in
    let came = s.closed k.0 j k.1.visit (omega arith) k.1.is_there (record { edge = from; within = within }) in
    (suc came.place, record { visit = came.visit; is_there = came.is_there; same = came.same })

pub sought_inside : (code : List Marked) (sought : Sought) (k : ℕ) (o : Option Marked) → slice_get code k ≡ o → is_sought_at o sought k ≡ true → k < length code
sought_inside code sought k None e h = absurd (cc)
sought_inside code sought k (Some m) e h = slice_get_within code k m e

pub search_ends : (p : Listing) (start : ℕ) (sought : Sought) (marks : List Bool) (visits : List Visit) (number : ℕ) → length visits ≤ number
    → Search p start sought marks visits number → (k : ℕ) → Onward p start k → is_sought p sought k ≡ true → ⊥
search_ends p start sought marks visits number all s k o is =
    let within = sought_inside p.code sought k (slice_get p.code k) refl is in
    let found = reached p start sought marks visits number k all s (onward o.path o.edge) within in
    let before = reached p start sought marks visits number o.before all s o.path (slice_get_within p.code o.before o.edge.at o.edge.is_there) in
    let less = slice_get_within visits before.0 before.1.visit before.1.is_there in
    let from = subst (λ n. Edge p false n k) (sym before.1.same) o.edge in
    let last = s.closed before.0 k before.1.visit (omega arith) before.1.is_there (record { edge = from; within = within }) in
    let behind = slice_get_within visits (suc last.place) last.visit last.is_there in
    let not_it = s.unmet last.place last.visit (omega arith) last.is_there in
    let it = subst (λ n. is_sought p sought n ≡ true) (sym last.same) is in
    wrong (sym not_it ∙ it)
  where
    wrong : false ≡ true → ⊥
    wrong e = cc

-- what is left to do: one for each index without a mark, and one for each visit that waits
abbrev pub left_to_do : List Bool → List Visit → ℕ → ℕ
left_to_do marks visits number = (unmarked marks + length visits) - number

balanced : (b : Bool) (marks : List Bool) (visits : List Visit) (new : Visit) (j : ℕ) → is_marked marks j ≡ b → j < length marks
    → unmarked (if b then marks else slice_set marks j true) + length (if b then visits else visits ++ new ∷ []) ≡ unmarked marks + length visits
balanced true marks visits new j e h = refl
balanced false marks visits new j e h =
    let one : ℕ = 1 in
    let was : (if is_marked marks j then 0 else one) ≡ one = ap (λ (b : Bool). if b then 0 else 1) e in
    omega (arith, sum_by-set (λ (m : Bool). if m then 0 else 1) marks j true false h, was, length-append visits (new ∷ []))

pub as_much : (marks more : List Bool) (visits on : List Visit) (number : ℕ) (index : Option ℕ)
    → more ≡ marks_with index marks → on ≡ visits_with index number marks visits
    → ((j : ℕ) → index ≡ Some j → j < length marks) → unmarked more + length on ≡ unmarked marks + length visits
as_much marks more visits on number None em ev h = λ k. unmarked (em k) + length (ev k)
as_much marks more visits on number (Some j) em ev h =
    let same : unmarked more + length on ≡ unmarked (marks_with (Some j) marks) + length (visits_with (Some j) number marks visits) =
    λ k. unmarked (em k) + length (ev k) in
    same ∙ balanced (is_marked marks j) marks visits (record { index = j; from = number }) j refl (h j refl)

length_kept : (b : Bool) (marks : List Bool) (j : ℕ) → length (if b then marks else slice_set marks j true) ≡ length marks
length_kept true marks j = refl
length_kept false marks j = length-set marks j true

pub length_with : (marks more : List Bool) (index : Option ℕ) → more ≡ marks_with index marks → length more ≡ length marks
length_with marks more None e = ap length e
length_with marks more (Some j) e = ap length e ∙ length_kept (is_marked marks j) marks j

-- one round of the search
pub goes_on : (p : Listing) (start : ℕ) (sought : Sought) (marks first second : List Bool) (visits one two : List Visit) (number : ℕ) (u : Visit) (next : Next)
    → slice_get visits number ≡ Some u → IsNext (Follows p) u.index next
    → first ≡ marks_with next.first marks → one ≡ visits_with next.first number marks visits
    → second ≡ marks_with next.second first → two ≡ visits_with next.second number first one
    → ((k : ℕ) → number ≡ suc k → is_sought p sought u.index ≡ false)
    → Search p start sought marks visits number → Search p start sought second two (number + 1)
goes_on p start sought marks first second visits one two number u next there exact ef eo es et unmet s =
    looked_at p start sought second two number u (still_there first one two number number u next.second et there_on) all unmet after
  where
    there_on : slice_get one number ≡ Some u
    there_on = still_there marks visits one number number u next.first eo there

    now : Search p start sought first one number
    now = visited p start sought marks first visits one number u next.first ef eo there (first_leads (Follows p) u.index next exact) s

    after : Search p start sought second two number
    after = visited p start sought first second one two number u next.second es et there_on (second_leads (Follows p) u.index next exact) now

    all : (j : ℕ) → Follows p u.index j → is_marked second j ≡ true
    all j f = elim (or_cases (is_it next.first j) (is_it next.second j) ((exact j).1 f)) [
      | inl a ↦ still_marked first second j next.second es (second_inside p u.index (length first) next exact now.sized)
          (asked marks first j next.first ef (first_inside p u.index (length marks) next exact s.sized) (that next.first j a))
      | inr b ↦ asked first second j next.second es (second_inside p u.index (length first) next exact now.sized) (that next.second j b)
    ]

pub less_to_do : (p : Listing) (i : ℕ) (marks first second : List Bool) (visits one two : List Visit) (number : ℕ) (next : Next)
    → number < length visits → length marks ≡ length p.code → IsNext (Follows p) i next
    → first ≡ marks_with next.first marks → one ≡ visits_with next.first number marks visits
    → second ≡ marks_with next.second first → two ≡ visits_with next.second number first one
    → left_to_do second two (number + 1) < left_to_do marks visits number
less_to_do p i marks first second visits one two number next less sized exact ef eo es et =
    let a = as_much marks first visits one number next.first ef eo (first_inside p i (length marks) next exact sized) in
    let b = as_much first second one two number next.second es et (second_inside p i (length first) next exact (length_with marks first next.first ef ∙ sized)) in
    omega arith

-- an end that is refused is not sought, unless it is the first visit
pub not_sought : (p : Listing) (sought : Sought) (number i : ℕ) (b : Bool) → b ≡ false
    → ((b ≡ true) ↔ ((0 < number) × (is_sought p sought i ≡ true))) → (k : ℕ) → number ≡ suc k → is_sought p sought i ≡ false
not_sought p sought number i b fails exact k e = elim (cases_Bool (is_sought p sought i)) [
  | inl is ↦ let yes : b ≡ true = exact.1 (omega arith, is) in absurd (cc)
  | inr other ↦ other
]

-- the way back with the visit at hand is a witness
pub found_path : (p : Listing) (start : ℕ) (sought : Sought) (visits slice : List Visit) (number : ℕ) (u : Visit) (way path : List ℕ)
    → 0 < number → AreVisits p start visits → slice_get visits number ≡ Some u → is_sought p sought u.index ≡ true → slice ≡ visits
    → ((p' : Listing) (start' : ℕ) (v : Visit) → AreVisits p' start' slice → slice_get slice u.from ≡ Some v → ListsPath p' start' v.index way)
    → path ≡ way ++ u.index ∷ [] → LeadsOnward p start sought path
found_path p start sought visits slice number u way path some are there is same lists e =
    let none : Visit = record { index = 0; from = 0 } in
    let less = earlier_number visits number u some are.earlier there in
    let inside = slice_get_within visits number u there in
    let v = get_or visits u.from none in
    let at = slice_get-get_or visits u.from none (omega arith) in
    let l = lists p start v (subst (AreVisits p start) (sym same) are) (subst (λ (vs : List Visit). slice_get vs u.from ≡ Some v) (sym same) at) in
    record {
      to = u.index;
      onward = record { before = v.index; path = l.path; edge = step visits number u v p start some are there at };
      along = e ∙ ap (λ (xs : List ℕ). xs ++ u.index ∷ []) l.along;
      is_it = is;
    }

-- the start, and what lies onward
pub at_start : (p : Listing) (start : ℕ) (sought : Sought) (path : List ℕ) → path ≡ start ∷ [] → is_sought p sought start ≡ true → LeadsTo p start sought path
at_start p start sought path e is = record { to = start; path = stay; along = e; is_it = is }

pub leads_on : (p : Listing) (start : ℕ) (sought : Sought) (path : List ℕ) → LeadsOnward p start sought path → LeadsTo p start sought path
leads_on p start sought path l = record { to = l.to; path = onward l.onward.path l.onward.edge; along = l.along; is_it = l.is_it }

pub none_at_all : (p : Listing) (start : ℕ) (sought : Sought) → is_sought p sought start ≡ false
    → ((k : ℕ) → Onward p start k → is_sought p sought k ≡ true → ⊥) → (k : ℕ) → Path p start k → is_sought p sought k ≡ true → ⊥
none_at_all p start sought unmet none k stay is = wrong (sym unmet ∙ is)
  where
    wrong : false ≡ true → ⊥
    wrong e = cc
none_at_all p start sought unmet none k (onward {j = j} path e) is = none k (record { before = j; path = path; edge = e }) is

-- facts of an answer, made weaker
pub if_some : {X : Type 0} (o : Option X) (P Q : X → Type 0) → ((x : X) → P x → Q x) → IfSome o P → IfSome o Q
if_some None P Q f h = h
if_some (Some x) P Q f h = f x h

pub if_none : {X : Type 0} (o : Option X) (P Q : Type 0) → (P → Q) → IfNone o P → IfNone o Q
if_none None P Q f h = f h
if_none (Some x) P Q f h = h
