-- The least certificate of a sound program is accepted: each rule asks of the least masks what soundness
-- says of paths.
use Rattle.annotator.proofs.Imports.{◌≡◌, ℕ, ◌+◌, ◌<◌, ◌≤◌, ◌⊎◌, Bool, true, false, not, ◌&&◌, ◌||◌, nat_eq, nat_lt, nat_le, if◌then◌else◌, Option, Some, None, List, [], ◌∷◌, map, length, get_or, slice_get, refl, sym, ◌∙◌, ap, subst, inl, inr, arith, suc, zero, is_none, is_some, list_any, IsStrictlyIncreasing, suc-add, or_cases, or_left, or_right, or_from, cases_Bool, cases_eq, ltb-true, ltb-false, lt-leb, eqb-true, eq-eqb, eqb-false, ne_eqb, cond-true, cond-false, and_parts, length-map, has, dests, released, Listing, IsWellFormed, Marked, Descriptor, Edge, Path, stay, onward, MayWrite, end_of, ends_of, sends, is_indirect, Reaches, mask_at, list_of, Rises, holds_at, any_of, holds_some, LeastList, IsLeast, IsWithin}
use Rattle.task_graph.specs.Soundness.{is_target, is_entry, SoundTask, Sound}
use Rattle.task_graph.proofs.EdgeLemmas.{edge_from}
use Rattle.task_graph.proofs.WellFormed.{entry_inside}
use Rattle.mark_checker.specs.Rules.{conditions, in_mask, next_has, stops_always, masked, places}
use Rattle.mark_checker.specs.Places.{IsClean, IsRight, AllRight, IsAccepted, PlaceSays}
use Rattle.mark_checker.proofs.Acceptance.{place_says, entry_says}
use Rattle.mark_checker.proofs.PlaceLists.{accepted}
use Rattle.annotator.proofs.Spread.{writes_before}

-- Bools
apart : (a b : Bool) → (a ≡ true → b ≡ true → ⊥) → (a && b) ≡ false
apart true true f = absurd (f refl refl)
apart true false f = refl
apart false b f = refl

implied : (a b : Bool) → (a ≡ true → b ≡ true) → (a && not b) ≡ false
implied true true f = refl
implied true false f = sym (f refl)
implied false b f = refl

never : (a : Bool) → (a && false) ≡ false
never true = refl
never false = refl

not_true : (b : Bool) → b ≡ true → not b ≡ false
not_true true h = refl
not_true false h = absurd (cc)

there_is : (o : Option ℕ) → is_some o ≡ true → is_none o ≡ true → ⊥
there_is None s n = cc
there_is (Some k) s n = cc

mask_has : (o : Option ℕ) (r : ℕ) → in_mask o r ≡ true → (k : ℕ) × (o ≡ Some k) × (has k r ≡ true)
mask_has None r h = absurd (cc)
mask_has (Some k) r h = (k, refl, h)

-- a test that holds of no edge's end
no_end : (o : Option ℕ) (test : ℕ → Bool) → ((j : ℕ) → o ≡ Some j → test j ≡ false) → holds_at o test ≡ false
no_end None test f = refl
no_end (Some j) test f = f j refl

no_edge : (p : Listing) (leaving : Bool) (i : ℕ) (m : Marked) (test : ℕ → Bool) → slice_get p.code i ≡ Some m
    → ((j : ℕ) → Edge p leaving i j → test j ≡ false) → list_any test (ends_of leaving m i) ≡ false
no_edge p leaving i m test there f =
    any_of test (end_of leaving m i false) (end_of leaving m i true)
    ∙ or_from (holds_at (end_of leaving m i false) test) (holds_at (end_of leaving m i true) test)
    (no_end (end_of leaving m i false) test (λ j e. f j (edge_from p leaving i j m false there e)))
    (no_end (end_of leaving m i true) test (λ j e. f j (edge_from p leaving i j m true there e)))

-- a test that holds of some edge's end
pub record Ends (p : Listing) (leaving : Bool) (i : ℕ) (test : ℕ → Bool) : Type 0 where
  pub to : ℕ
  pub edge : Edge p leaving i to
  pub holds : test to ≡ true

pub some_edge : (p : Listing) (leaving : Bool) (i : ℕ) (m : Marked) (test : ℕ → Bool) → slice_get p.code i ≡ Some m
    → list_any test (ends_of leaving m i) ≡ true → Ends p leaving i test
some_edge p leaving i m test there h =
    elim (or_cases (holds_at (end_of leaving m i false) test) (holds_at (end_of leaving m i true) test) (sym (any_of test (end_of leaving m i false) (end_of leaving m i true)) ∙ h)) [
      | inl x ↦ let k = holds_some (end_of leaving m i false) test x in record { to = k.0; edge = edge_from p leaving i k.0 m false there k.1; holds = k.2 }
      | inr y ↦ let k = holds_some (end_of leaving m i true) test y in record { to = k.0; edge = edge_from p leaving i k.0 m true there k.1; holds = k.2 }
    ]

none_listed : (test : ℕ → Bool) (xs : List ℕ) → ((j : ℕ) → list_any (nat_eq j) xs ≡ true → test j ≡ false) → list_any test xs ≡ false
none_listed test [] f = refl
none_listed test (x ∷ xs) f =
    or_from (test x) (list_any test xs) (f x (or_left (nat_eq x x) (list_any (nat_eq x) xs) (eq-eqb x x refl)))
    (none_listed test xs (λ j h. f j (or_right (nat_eq j x) (list_any (nat_eq j) xs) h)))

-- a register of a successor's least mask is written after it
pub next_writes : (p : Listing) (d : Descriptor) (es : List (ℕ × ℕ)) → LeastList p d es → (i r : ℕ) (m : Marked) → slice_get p.code i ≡ Some m
    → next_has p es m i r ≡ true → (j : ℕ) × Edge p false i j × MayWrite p j r
next_writes p d es least i r m there h =
    let e = some_edge p false i m (λ j. nat_lt j (length p.code) && in_mask (mask_at es j) r) there h in
    let k = mask_has (mask_at es e.to) r (and_parts (nat_lt e.to (length p.code)) (in_mask (mask_at es e.to) r) e.holds).1 in
    (e.to, e.edge, (least.exact e.to k.0 r k.1).0 k.2)

-- One task that is sound, with its least masks.
module _ (p : Listing) (d : Descriptor) (es : List (ℕ × ℕ)) (least : LeastList p d es) (sound : SoundTask p d) where
  path_to : (i mask : ℕ) → mask_at es i ≡ Some mask → Path p d.entry i
  path_to i mask h = ((least.reached i).0 (ap (λ (o : Option ℕ). is_some o) h)).path

  -- what it sends is in no successor's mask
  sent_apart : (i mask r : ℕ) (m : Marked) → slice_get p.code i ≡ Some m → mask_at es i ≡ Some mask → sends m r ≡ true → next_has p es m i r ≡ true → ⊥
  sent_apart i mask r m there has_mask s h = let n = next_writes p d es least i r m there h in sound.sends_last i m (path_to i mask has_mask) there r s n.0 n.1 n.2

  clean : (i mask : ℕ) (m : Marked) → slice_get p.code i ≡ Some m → mask_at es i ≡ Some mask → IsClean (conditions p d es i m (Some mask))
  clean i mask m there has_mask = record {
    entry_without_mask = never (nat_eq i d.entry);
    next_without_mask = no_edge p false i m (λ j. nat_lt j (length p.code) && is_none (mask_at es j)) there (λ j e.
        apart (nat_lt j (length p.code)) (is_none (mask_at es j)) (λ less none.
        there_is (mask_at es j) ((least.reached j).1 (record { path = onward path e; within = ltb-true j (length p.code) less })) none));
    lacks_destination = λ r. implied (dests m.op r) (has mask r) (λ w.
        (least.exact i mask r has_mask).1 (record { place = i; comes = stay; at = m; is_there = there; writes = w }));
    lacks_next = λ r. implied (next_has p es m i r) (has mask r) (λ h.
        let n = next_writes p d es least i r m there h in (least.exact i mask r has_mask).1 (writes_before p i n.0 r n.1 n.2));
    exceeds_create = λ r. apart (nat_eq i d.entry) (has mask r && not (has d.create r)) (λ begins wide.
        let w : MayWrite p d.entry r = subst (λ (n : ℕ). MayWrite p n r) (eqb-true i d.entry begins) ((least.exact i mask r has_mask).0 (and_parts (has mask r) (not (has d.create r)) wide).0) in
        both (not (has d.create r)) (not_true (has d.create r) (sound.writes_created r w)) (and_parts (has mask r) (not (has d.create r)) wide).1);
    forwarded_in_next = λ r. apart (m.forward && dests m.op r) (next_has p es m i r) (λ f h.
        sent_apart i mask r m there has_mask (or_left (m.forward && dests m.op r) (released m.op r) f) h);
    released_in_next = λ r. apart (released m.op r) (next_has p es m i r) (λ l h.
        sent_apart i mask r m there has_mask (or_right (m.forward && dests m.op r) (released m.op r) l) h);
    sent_not_created = λ r. implied (sends m r) (has d.create r) (λ s. sound.sends_created i m path there r s);
    exit_not_listed = no_edge p true i m (λ j. not (is_target d j)) there (λ j e. not_true (is_target d j) (sound.exits_listed i j path e));
    falls_off = no_edge p false i m (λ j. nat_le (length p.code) j) there (λ j e. lt-leb (length p.code) j (sound.stays_inside i j path e));
    indirect_goes_on = implied (is_indirect m.op) (stops_always m.stop) (λ h. ap stops_always (sound.indirect_stops i m path there h));
    target_not_entry = apart (nat_eq i d.entry) (list_any (λ j. not (is_entry p j)) d.targets) (λ begins bad.
        both (list_any (λ j. not (is_entry p j)) d.targets)
        (none_listed (λ j. not (is_entry p j)) d.targets (λ j h. not_true (is_entry p j) (sound.targets_begin j h))) bad);
  }
    where
      path : Path p d.entry i
      path = path_to i mask has_mask

      both : (b : Bool) → b ≡ false → b ≡ true → ⊥
      both b x y = cc

-- the entries from a least index on, each above the one before it
abbrev RiseFrom : ℕ → List (ℕ × ℕ) → Type 0
RiseFrom low [] = Unit {0}
RiseFrom low (e ∷ es) = (low ≤ e.0) × RiseFrom (e.0 + 1) es

rise_from : (xs : List (ℕ × ℕ)) (low : ℕ) → IsStrictlyIncreasing (map (λ x. x.0) xs) → (0 < length xs → low ≤ get_or (map (λ x. x.0) xs) 0 0) → RiseFrom low xs
rise_from [] low rising first = tt
rise_from (e ∷ es) low rising first = (
  first (omega arith),
  rise_from es (e.0 + 1)
      (λ k less. subst (λ (n : ℕ). get_or (map (λ (x : ℕ × ℕ). x.0) es) k 0 < get_or (e.0 ∷ map (λ (x : ℕ × ℕ). x.0) es) n 0) (suc-add k 1) (rising (suc k) (omega arith)))
      (λ some. let next : e.0 < get_or (map (λ (x : ℕ × ℕ). x.0) es) 0 0 = rising 0 (omega (arith, length-map es (λ (x : ℕ × ℕ). x.0))) in omega arith),
)

absent_below : (xs : List (ℕ × ℕ)) (low i : ℕ) → RiseFrom low xs → i < low → mask_at xs i ≡ None
absent_below [] low i rise less = refl
absent_below (e ∷ es) low i rise less =
    let at_least : low ≤ e.0 = rise.0 in
    cond-false (nat_eq e.0 i) _ _ (ne_eqb e.0 i (λ same. omega arith)) ∙ absent_below es (e.0 + 1) i rise.1 (omega arith)

-- the masks of the rest of a list are masks of the list
in_rest : (e : ℕ × ℕ) (es : List (ℕ × ℕ)) (i mask : ℕ) → RiseFrom (e.0 + 1) es → mask_at es i ≡ Some mask → mask_at (e ∷ es) i ≡ Some mask
in_rest e es i mask rise h = elim (cases_eq e.0 i) [
  | inl same ↦ absurd (none_some (mask_at es i) (absent_below es (e.0 + 1) i rise (omega arith)) h)
  | inr ne ↦ cond-false (nat_eq e.0 i) _ _ (ne_eqb e.0 i ne) ∙ h
]
  where
    none_some : (o : Option ℕ) → o ≡ None → o ≡ Some mask → ⊥
    none_some o x y = cc

at_head : (e : ℕ × ℕ) (es : List (ℕ × ℕ)) → mask_at (e ∷ es) e.0 ≡ Some e.1
at_head e es = cond-true (nat_eq e.0 e.0) _ _ (eq-eqb e.0 e.0 refl)

right_masked : (p : Listing) (d : Descriptor) (es xs : List (ℕ × ℕ)) (low : ℕ) → RiseFrom low xs
    → ((i mask : ℕ) → mask_at xs i ≡ Some mask → IsRight p d es (i, Some mask)) → AllRight p d es (masked xs)
right_masked p d es [] low rise right = tt
right_masked p d es (x ∷ xs) low rise right =
    (right x.0 x.1 (at_head x xs), right_masked p d es xs (x.0 + 1) rise.1 (λ i mask h. right i mask (in_rest x xs i mask rise.1 h)))

split_places : (p : Listing) (d : Descriptor) (es xs : List (ℕ × ℕ)) (x : ℕ × ℕ) (less same : Bool) → nat_lt x.0 d.entry ≡ less → nat_eq x.0 d.entry ≡ same
    → AllRight p d es (masked (x ∷ xs)) → (x.0 < d.entry → AllRight p d es (places d.entry xs)) → (d.entry < x.0 → ⊥)
    → AllRight p d es (if less then (x.0, Some x.1) ∷ places d.entry xs else if same then masked (x ∷ xs) else (d.entry, None) ∷ masked (x ∷ xs))
split_places p d es xs x true same l s all rest beyond = (all.0, rest (ltb-true x.0 d.entry l))
split_places p d es xs x false true l s all rest beyond = all
split_places p d es xs x false false l s all rest beyond =
    let ne = eqb-false x.0 d.entry s in
    let past : d.entry ≤ x.0 = ltb-false x.0 d.entry l in
    absurd (beyond (omega arith))

right_places : (p : Listing) (d : Descriptor) (es xs : List (ℕ × ℕ)) (low first : ℕ) → RiseFrom low xs
    → ((i mask : ℕ) → mask_at xs i ≡ Some mask → IsRight p d es (i, Some mask)) → mask_at xs d.entry ≡ Some first → AllRight p d es (places d.entry xs)
right_places p d es [] low first rise right begun = absurd (cc)
right_places p d es (x ∷ xs) low first rise right begun =
    split_places p d es xs x (nat_lt x.0 d.entry) (nat_eq x.0 d.entry) refl refl (right_masked p d es (x ∷ xs) low rise right)
    (λ less. right_places p d es xs (x.0 + 1) first rise.1 (λ i mask h. right i mask (in_rest x xs i mask rise.1 h)) (later less))
    (λ beyond. none_some (mask_at (x ∷ xs) d.entry) (absent_below (x ∷ xs) x.0 d.entry (at_least, rise.1) beyond) begun)
  where
    at_least : x.0 ≤ x.0
    at_least = omega arith

    later : x.0 < d.entry → mask_at xs d.entry ≡ Some first
    later less = sym (cond-false (nat_eq x.0 d.entry) (Some x.1) (mask_at xs d.entry) (ne_eqb x.0 d.entry (λ same. omega arith))) ∙ begun

    none_some : (o : Option ℕ) → o ≡ None → o ≡ Some first → ⊥
    none_some o a b = cc

task_right : (p : Listing) (d : Descriptor) (es : List (ℕ × ℕ)) → LeastList p d es → SoundTask p d → d.entry < length p.code → AllRight p d es (places d.entry es)
task_right p d es least sound begins =
    let first = some_of (mask_at es d.entry) ((least.reached d.entry).1 (record { path = stay; within = begins })) in
    right_places p d es es 0 first.0 (rise_from es 0 least.rises.rising (λ some. omega arith)) (λ i mask h m there. clean p d es least sound i mask m there h) first.1
  where
    some_of : (o : Option ℕ) → is_some o ≡ true → (k : ℕ) × (o ≡ Some k)
    some_of None h = absurd (cc)
    some_of (Some k) h = (k, refl)

pub least_accepted : (p : Listing) (cert : List (List (ℕ × ℕ))) → IsWellFormed p → IsLeast p cert → Sound p → IsAccepted p cert
least_accepted p cert well least sound =
    accepted p cert well (λ t d less there. task_right p d (list_of cert t) (least.least t d there) (sound t d there) (entry_inside p t d well there))

-- along a path from an index with a mask
record Narrowed (es : List (ℕ × ℕ)) (mask k : ℕ) : Type 0 where
  later : ℕ
  has_mask : mask_at es k ≡ Some later
  within : (r : ℕ) → has later r ≡ true → has mask r ≡ true

narrowed : (p : Listing) (d : Descriptor) (es : List (ℕ × ℕ)) → AllRight p d es (places d.entry es) → d.entry < length p.code
    → (i mask k : ℕ) → mask_at es i ≡ Some mask → Path p i k → Narrowed es mask k
narrowed p d es all begins i mask k has_mask stay = record { later = mask; has_mask = has_mask; within = λ r h. h }
narrowed p d es all begins i mask k has_mask (onward {j = j} path e) =
    let before = narrowed p d es all begins i mask j has_mask path in
    let says : PlaceSays p d es j e.at before.later = place_says p d es j before.later e.at all e.is_there before.has_mask begins in
    let next = says.next_masked k e in
    record { later = next.0; has_mask = next.1; within = λ r h. before.within r (says.next_within k next.0 r e next.1 h) }

pub least_within : (p : Listing) (cert other : List (List (ℕ × ℕ))) → IsWellFormed p → IsLeast p cert → IsAccepted p other
    → (t : ℕ) (d : Descriptor) → slice_get p.tasks t ≡ Some d → IsWithin (list_of cert t) (list_of other t)
least_within p cert other well least acc t d there i mask h =
    let es = list_of other t in
    let all = acc.right t d there in
    let begins = entry_inside p t d well there in
    let list = least.least t d there in
    let first = entry_says p d es all begins in
    let at = narrowed p d es all begins d.entry first.0 i first.1 ((list.reached i).0 (ap (λ (o : Option ℕ). is_some o) h)).path in (
      at.later,
      at.has_mask,
      λ r yes.
          let w = (list.exact i mask r h).0 yes in
          let last = narrowed p d es all begins i at.later w.place at.has_mask w.comes in
          last.within r ((place_says p d es w.place last.later w.at all w.is_there last.has_mask begins).destinations r w.writes),
    )
