-- The visits stand in order of their steps back, so what a path comes to was visited in no more steps than
-- the path has edges.
use Rattle.std.proofs.Common.{◌≡◌, ℕ, ◌<◌, ◌≤◌, inl, inr, Bool, true, false, List, [], ◌∷◌, ◌++◌, length, get_or, slice_get, Some, refl, sym, ◌∙◌, ap, subst, arith, length-append, zero, suc}
use Rattle.std.proofs.lemmas.Bool.{cases_lt}
use Rattle.std.proofs.lemmas.Option.{slice_get_within, slice_get-get_or}
use Rattle.task_descriptor.specs.Listing.{Listing}
use Rattle.task_graph.specs.Edges.{Edge, Path, stay, onward}
use Rattle.finding_paths.specs.declared.sought.Sought.{Sought}
use Rattle.finding_paths.specs.declared.visits.Visit.{Visit}
use Rattle.finding_paths.specs.Witnesses.{is_sought, indices, Onward, LeadsTo, LeadsOnward, NoneShorter}
use Rattle.finding_paths.specs.Visits.{ComeFromEarlier, StepsBack, at_first, behind, IsAsLong}
use Rattle.finding_paths.proofs.Searches.{StandsAt, Search, sought_inside}

-- each visit is some steps from the first
record Back (visits : List Visit) (at : ℕ) : Type 0 where
  steps : ℕ
  back : StepsBack visits at steps

goes_back : (visits : List Visit) → ComeFromEarlier visits → (bound at : ℕ) → at ≤ bound → at < length visits → Back visits at
goes_back visits earlier bound zero le less = record { steps = 0; back = at_first }
goes_back visits earlier zero (suc k) le less = absurd (omega arith)
goes_back visits earlier (suc bound) (suc k) le less =
    let none : Visit = record { index = 0; from = 0 } in
    let v = get_or visits (suc k) none in
    let there : slice_get visits (suc k) ≡ Some v = slice_get-get_or visits (suc k) none less in
    let sooner = earlier k v there in
    let b = goes_back visits earlier bound v.from (omega arith) (omega arith) in
    record { steps = suc b.steps; back = behind there b.back }

abbrev InOrder : List Visit → Type 0
InOrder visits = (k l : ℕ) (u v : Visit) → k ≤ l → slice_get visits (suc k) ≡ Some u → slice_get visits (suc l) ≡ Some v → u.from ≤ v.from

-- a later visit is as many steps from the first, or more
no_fewer : (visits : List Visit) → InOrder visits → (k l m n : ℕ) → StepsBack visits k m → StepsBack visits l n → k ≤ l → m ≤ n
no_fewer visits order k l m n at_first far le = omega arith
no_fewer visits order k l m n (behind {k = i} {n = s} {v = u} is near) at_first le = absurd (omega arith)
no_fewer visits order k l m n (behind {k = i} {n = s} {v = u} is near) (behind {k = j} {n = t} {v = v} also far) le =
    let sooner = no_fewer visits order u.from v.from s t near far (order i j u v (omega arith) is also) in omega arith

-- a visit of the index in fewer steps, and one after the first
record Near (visits : List Visit) (index bound : ℕ) : Type 0 where
  place : ℕ
  stands : StandsAt visits place index
  steps : ℕ
  back : StepsBack visits place steps
  fewer : steps < bound

record NearBehind (visits : List Visit) (index bound : ℕ) : Type 0 where
  place : ℕ
  stands : StandsAt visits (suc place) index
  steps : ℕ
  back : StepsBack visits (suc place) steps
  fewer : steps < bound

module _ (p : Listing) (start : ℕ) (sought : Sought) (marks : List Bool) (visits : List Visit) (number far : ℕ) (s : Search p start sought marks visits number)
    (at_hand : StepsBack visits number far) where
  -- a visit in fewer steps is an earlier one
  earlier_visit : (k n : ℕ) → StepsBack visits k n → n < far → k < number
  earlier_visit k n back few = elim (cases_lt k number) [
    | inl less ↦ less
    | inr other ↦ let more = no_fewer visits s.in_order number k far n at_hand back other in absurd (omega arith)
  ]

  -- an edge from there leads to a visit in one step more
  next_near : (i j bound : ℕ) → Near visits i bound → bound ≤ far → Edge p false i j → j < length p.code → NearBehind visits j (suc bound)
  next_near i j bound near le e within =
      let v = near.stands.visit in
      let few = near.fewer in
      let sooner = earlier_visit near.place near.steps near.back (omega arith) in
      let c = s.closed near.place j v sooner near.stands.is_there (record { edge = subst (λ n. Edge p false n j) (sym near.stands.same) e; within = within }) in
      let inside = slice_get_within visits near.place v near.stands.is_there in
      let no_later = c.no_later in
      let b = goes_back visits s.are.earlier c.visit.from c.visit.from (omega arith) (omega arith) in
      let no_more = no_fewer visits s.in_order c.visit.from near.place b.steps near.steps b.back near.back no_later in
      record {
        place = c.place;
        stands = record { visit = c.visit; is_there = c.is_there; same = c.same };
        steps = suc b.steps;
        back = behind c.is_there b.back;
        fewer = omega arith;
      }

  near_by : (j : ℕ) (path : Path p start j) → j < length p.code → length (indices p start j path) ≤ far → Near visits j (length (indices p start j path))
  near_by j stay within le = record { place = 0; stands = s.begun; steps = 0; back = at_first; fewer = omega arith }
  near_by j (onward {j = i} path e) within le =
      let longer = length-append (indices p start i path) (j ∷ []) in
      let before = near_by i path (slice_get_within p.code i e.at e.is_there) (omega arith) in
      let n = next_near i j (length (indices p start i path)) before (omega arith) e within in
      let few = n.fewer in
      record { place = suc n.place; stands = n.stands; steps = n.steps; back = n.back; fewer = omega arith }

  -- none of the visits before is sought, so no path to what is has fewer edges
  no_sooner : (k : ℕ) (o : Onward p start k) → is_sought p sought k ≡ true → far ≤ length (indices p start o.before o.path)
  no_sooner k o is = elim (cases_lt (length (indices p start o.before o.path)) far) [
    | inl less ↦
        let within = sought_inside p.code sought k (slice_get p.code k) refl is in
        let before = near_by o.before o.path (slice_get_within p.code o.before o.edge.at o.edge.is_there) (omega arith) in
        let n = next_near o.before k (length (indices p start o.before o.path)) before (omega arith) o.edge within in
        let few = n.fewer in
        let unmet = s.unmet n.place n.stands.visit (earlier_visit (suc n.place) n.steps n.back (omega arith)) n.stands.is_there in
        absurd (wrong (sym unmet ∙ subst (λ i. is_sought p sought i ≡ true) (sym n.stands.same) is))
    | inr le ↦ le
  ]
    where
      wrong : false ≡ true → ⊥
      wrong e = cc

-- the way back from the visit at hand, with its index, is a shortest path
one_more : (visits : List Visit) (number n : ℕ) (u : Visit) → 0 < number → slice_get visits number ≡ Some u → StepsBack visits u.from n → StepsBack visits number (suc n)
one_more visits zero n u some is h = absurd (omega arith)
one_more visits (suc k) n u some is h = behind is h

pub none_shorter : (p : Listing) (start : ℕ) (sought : Sought) (marks : List Bool) (visits slice : List Visit) (number : ℕ) (u : Visit) (way path : List ℕ)
    → Search p start sought marks visits number → 0 < number → slice_get visits number ≡ Some u → slice ≡ visits → IsAsLong slice u.from way
    → path ≡ way ++ u.index ∷ [] → NoneShorter (LeadsOnward p start sought) path
none_shorter p start sought marks visits slice number u way path s some there same long e other l =
    let back = one_more visits number long.steps u some there (subst (λ (vs : List Visit). StepsBack vs u.from long.steps) same long.back) in
    let sooner = no_sooner p start sought marks visits number (suc long.steps) s back l.to l.onward l.is_it in
    omega (arith, ap length e, length-append way (u.index ∷ []), long.long, ap length l.along, length-append (indices p start l.onward.before l.onward.path) (l.to ∷ []))

-- the start alone is a shortest path, and where it is not sought each path goes on
some_index : (p : Listing) (i k : ℕ) (path : Path p i k) → 1 ≤ length (indices p i k path)
some_index p i k stay = omega arith
some_index p i k (onward {j = j} path e) = omega (arith, length-append (indices p i j path) (k ∷ []))

pub start_shortest : (p : Listing) (start : ℕ) (sought : Sought) (path : List ℕ) → path ≡ start ∷ [] → NoneShorter (LeadsTo p start sought) path
start_shortest p start sought path e other l = let some = some_index p start l.to l.path in omega (arith, ap length e, ap length l.along)

pub goes_on_shortest : (p : Listing) (start : ℕ) (sought : Sought) (path : List ℕ) → is_sought p sought start ≡ false
    → NoneShorter (LeadsOnward p start sought) path → NoneShorter (LeadsTo p start sought) path
goes_on_shortest p start sought path unmet shortest other l = by_path l.to l.path l.along l.is_it
  where
    wrong : false ≡ true → ⊥
    wrong e = cc

    by_path : (k : ℕ) (way : Path p start k) → other ≡ indices p start k way → is_sought p sought k ≡ true → length path ≤ length other
    by_path k stay along is = absurd (wrong (sym unmet ∙ is))
    by_path k (onward {j = j} way e) along is =
        shortest other (record { to = k; onward = record { before = j; path = way; edge = e }; along = along; is_it = is })
