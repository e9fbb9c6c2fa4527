-- Acceptance is soundness. Where every place of a task is right, masks only shrink along inner edges:
-- so what is written on the way is in the entry's mask, and what was sent is in no later mask.
use Rattle.std.proofs.Common.{◌≡◌, ℕ, ◌<◌, Bool, true, false, not, ◌&&◌, nat_eq, nat_lt, nat_le, if◌then◌else◌, Option, Some, None, List, [], ◌∷◌, length, slice_get, refl, sym, ◌∙◌, ap, subst, inl, inr, arith, suc, zero}
use Rattle.std.specs.Prelude.{is_none}
use Rattle.std.specs.List.{list_any}
use Rattle.std.proofs.lemmas.Bool.{or_cases, or_left, or_right, and_from, lt-ltb, leb-false, eqb-true, eq-eqb, false_from_ne_true, not-false, or_parts}
use Rattle.mips_instructions.specs.Words.{has}
use Rattle.mips_instructions.specs.Instruction.{dests, released}
use Rattle.task_descriptor.specs.Listing.{Listing, IsWellFormed}
use Rattle.task_descriptor.specs.declared.descriptor.Marked.{Marked}
use Rattle.task_descriptor.specs.declared.descriptor.Descriptor.{Descriptor}
use Rattle.task_descriptor.specs.declared.descriptor.Stop.{Stop}
use Rattle.task_descriptor.specs.declared.descriptor.Stop.TheVariants as stop
use Rattle.task_graph.specs.Edges.{Edge, Path, stay, onward, end_of, ends_of, sends, is_indirect}
use Rattle.task_graph.specs.Soundness.{is_target, is_entry, SoundTask, Sound}
use Rattle.task_graph.proofs.EdgeLemmas.{edge_to}
use Rattle.task_graph.proofs.WellFormed.{entry_inside}
use Rattle.mask_certificate.specs.Lists.{mask_at, list_of}
use Rattle.mark_checker.specs.Rules.{conditions, in_mask, next_has, stops_always, masked, places}
use Rattle.mark_checker.specs.Places.{IsClean, IsRight, AllRight, PlaceSays}
use Rattle.mark_checker.specs.CheckerSteps.{holds_at}
use Rattle.mark_checker.proofs.Ahead.{any_of, some_holds}

-- Bools
implied : (a b : Bool) → (a && not b) ≡ false → a ≡ true → b ≡ true
implied true true h e = refl
implied true false h e = absurd (cc)
implied false b h e = absurd (cc)

excluded : (a b : Bool) → (a && b) ≡ false → a ≡ true → b ≡ false
excluded true b h e = h
excluded false b h e = absurd (cc)

at_true : (a b : Bool) → (a && b) ≡ false → a ≡ true → b ≡ false
at_true true b h e = h
at_true false b h e = absurd (cc)

-- a test that holds of no end holds of no edge's end
listed : (p : Listing) (leaving : Bool) (i j : ℕ) (m : Marked) (test : ℕ → Bool) → slice_get p.code i ≡ Some m → Edge p leaving i j
    → test j ≡ true → list_any test (ends_of leaving m i) ≡ true
listed p leaving i j m test there e h = any_of test (end_of leaving m i false) (end_of leaving m i true)
    ∙ (elim (edge_to p leaving i j m there e) [
      | inl x ↦ or_left (holds_at (end_of leaving m i false) test) (holds_at (end_of leaving m i true) test) (some_holds (end_of leaving m i false) test j x h)
      | inr y ↦ or_right (holds_at (end_of leaving m i false) test) (holds_at (end_of leaving m i true) test) (some_holds (end_of leaving m i true) test j y h)
    ])

unlisted : (p : Listing) (leaving : Bool) (i j : ℕ) (m : Marked) (test : ℕ → Bool) → slice_get p.code i ≡ Some m → Edge p leaving i j
    → list_any test (ends_of leaving m i) ≡ false → test j ≡ false
unlisted p leaving i j m test there e none =
    false_from_ne_true (test j) (λ h. let some = listed p leaving i j m test there e h in both (list_any test (ends_of leaving m i)) none some)
  where
    both : (b : Bool) → b ≡ false → b ≡ true → ⊥
    both b x y = cc

-- a mask belongs to a right place
one_right : (p : Listing) (d : Descriptor) (es : List (ℕ × ℕ)) (x : ℕ × ℕ) (i mask : ℕ) (b : Bool) (rest : Option ℕ)
    → nat_eq x.0 i ≡ b → (if b then Some x.1 else rest) ≡ Some mask → IsRight p d es (x.0, Some x.1)
    → (rest ≡ Some mask → IsRight p d es (i, Some mask)) → IsRight p d es (i, Some mask)
one_right p d es x i mask true rest e h right others =
    let same : x.1 ≡ mask = cc in
    subst (λ (n : ℕ). IsRight p d es (i, Some n)) same (subst (λ (n : ℕ). IsRight p d es (n, Some x.1)) (eqb-true x.0 i e) right)
one_right p d es x i mask false rest e h right others = others h

right_masked : (p : Listing) (d : Descriptor) (es xs : List (ℕ × ℕ)) (i mask : ℕ) → AllRight p d es (masked xs) → mask_at xs i ≡ Some mask
    → IsRight p d es (i, Some mask)
right_masked p d es [] i mask all h = absurd (cc)
right_masked p d es (x ∷ xs) i mask all h =
    one_right p d es x i mask (nat_eq x.0 i) (mask_at xs i) refl h all.0 (λ k. right_masked p d es xs i mask all.1 k)

split_right : (p : Listing) (d : Descriptor) (es xs : List (ℕ × ℕ)) (x : ℕ × ℕ) (i mask : ℕ) (less same : Bool)
    → AllRight p d es (if less then (x.0, Some x.1) ∷ places d.entry xs else if same then masked (x ∷ xs) else (d.entry, None) ∷ masked (x ∷ xs))
    → mask_at (x ∷ xs) i ≡ Some mask
    → (AllRight p d es (places d.entry xs) → mask_at xs i ≡ Some mask → IsRight p d es (i, Some mask))
    → IsRight p d es (i, Some mask)
split_right p d es xs x i mask true same all h others =
    one_right p d es x i mask (nat_eq x.0 i) (mask_at xs i) refl h all.0 (λ k. others all.1 k)
split_right p d es xs x i mask false true all h others = right_masked p d es (x ∷ xs) i mask all h
split_right p d es xs x i mask false false all h others = right_masked p d es (x ∷ xs) i mask all.1 h

right_place : (p : Listing) (d : Descriptor) (es xs : List (ℕ × ℕ)) (i mask : ℕ) → AllRight p d es (places d.entry xs) → mask_at xs i ≡ Some mask
    → IsRight p d es (i, Some mask)
right_place p d es [] i mask all h = absurd (cc)
right_place p d es (x ∷ xs) i mask all h =
    split_right p d es xs x i mask (nat_lt x.0 d.entry) (nat_eq x.0 d.entry) all h (λ a k. right_place p d es xs i mask a k)

-- the entry has a mask
bare_entry : (p : Listing) (d : Descriptor) (es : List (ℕ × ℕ)) (m : Marked) → slice_get p.code d.entry ≡ Some m → IsRight p d es (d.entry, None) → ⊥
bare_entry p d es m there right =
    wrong (nat_eq d.entry d.entry) (eq-eqb d.entry d.entry refl) (right m there).entry_without_mask
  where
    wrong : (b : Bool) → b ≡ true → (b && true) ≡ false → ⊥
    wrong true e h = cc
    wrong false e h = cc

some_mask : (b : Bool) (mask : ℕ) (rest : Option ℕ) → ((k : ℕ) × (rest ≡ Some k)) → (k : ℕ) × ((if b then Some mask else rest) ≡ Some k)
some_mask true mask rest h = (mask, refl)
some_mask false mask rest h = h

split_entry : (p : Listing) (d : Descriptor) (es xs : List (ℕ × ℕ)) (x : ℕ × ℕ) (m : Marked) (less same : Bool)
    → nat_eq x.0 d.entry ≡ same → slice_get p.code d.entry ≡ Some m
    → AllRight p d es (if less then (x.0, Some x.1) ∷ places d.entry xs else if same then masked (x ∷ xs) else (d.entry, None) ∷ masked (x ∷ xs))
    → (AllRight p d es (places d.entry xs) → (k : ℕ) × (mask_at xs d.entry ≡ Some k))
    → (k : ℕ) × (mask_at (x ∷ xs) d.entry ≡ Some k)
split_entry p d es xs x m true same e there all others = some_mask (nat_eq x.0 d.entry) x.1 (mask_at xs d.entry) (others all.1)
split_entry p d es xs x m false true e there all others = (x.1, ap (λ (b : Bool). if b then Some x.1 else mask_at xs d.entry) e)
split_entry p d es xs x m false false e there all others = absurd (bare_entry p d es m there all.0)

entry_masked : (p : Listing) (d : Descriptor) (es xs : List (ℕ × ℕ)) (m : Marked) → slice_get p.code d.entry ≡ Some m
    → AllRight p d es (places d.entry xs) → (k : ℕ) × (mask_at xs d.entry ≡ Some k)
entry_masked p d es [] m there all = absurd (bare_entry p d es m there all.0)
entry_masked p d es (x ∷ xs) m there all =
    split_entry p d es xs x m (nat_lt x.0 d.entry) (nat_eq x.0 d.entry) refl there all (λ a. entry_masked p d es xs m there a)

pub some_there : (xs : List Marked) (i : ℕ) → i < length xs → (m : Marked) × (slice_get xs i ≡ Some m)
some_there [] i h = absurd (omega arith)
some_there (m ∷ ms) zero h = (m, refl)
some_there (m ∷ ms) (suc i) h = some_there ms i (omega arith)

-- One task: d, its list es, and every place right.
module _ (p : Listing) (d : Descriptor) (es : List (ℕ × ℕ)) (all : AllRight p d es (places d.entry es)) where
  clean_at : (i mask : ℕ) (m : Marked) → slice_get p.code i ≡ Some m → mask_at es i ≡ Some mask → IsClean (conditions p d es i m (Some mask))
  clean_at i mask m there has_mask = right_place p d es es i mask all has_mask m there

  inside : (i mask j : ℕ) (m : Marked) → slice_get p.code i ≡ Some m → mask_at es i ≡ Some mask → Edge p false i j → j < length p.code
  inside i mask j m there has_mask e =
      leb-false (length p.code) j
      (unlisted p false i j m (λ k. nat_le (length p.code) k) there e (clean_at i mask m there has_mask).falls_off)

  next_mask : (i mask j : ℕ) (m : Marked) → slice_get p.code i ≡ Some m → mask_at es i ≡ Some mask → Edge p false i j → (k : ℕ) × (mask_at es j ≡ Some k)
  next_mask i mask j m there has_mask e =
      some (mask_at es j)
      (excluded (nat_lt j (length p.code)) (is_none (mask_at es j))
      (unlisted p false i j m (λ k. nat_lt k (length p.code) && is_none (mask_at es k)) there e (clean_at i mask m there has_mask).next_without_mask)
      (lt-ltb j (length p.code) (inside i mask j m there has_mask e)))
    where
      some : (o : Option ℕ) → is_none o ≡ false → (k : ℕ) × (o ≡ Some k)
      some None h = absurd (cc)
      some (Some k) h = (k, refl)

  next_has_it : (i mask j k r : ℕ) (m : Marked) → slice_get p.code i ≡ Some m → mask_at es i ≡ Some mask → Edge p false i j → mask_at es j ≡ Some k
      → has k r ≡ true → next_has p es m i r ≡ true
  next_has_it i mask j k r m there has_mask e next h =
      listed p false i j m (λ l. nat_lt l (length p.code) && in_mask (mask_at es l) r) there e
      (and_from (nat_lt j (length p.code)) (in_mask (mask_at es j) r) (lt-ltb j (length p.code) (inside i mask j m there has_mask e))
      (subst (λ (o : Option ℕ). in_mask o r ≡ true) (sym next) h))

  shrinks : (i mask j k r : ℕ) (m : Marked) → slice_get p.code i ≡ Some m → mask_at es i ≡ Some mask → Edge p false i j → mask_at es j ≡ Some k
      → has k r ≡ true → has mask r ≡ true
  shrinks i mask j k r m there has_mask e next h =
      implied (next_has p es m i r) (has mask r) ((clean_at i mask m there has_mask).lacks_next r) (next_has_it i mask j k r m there has_mask e next h)

  not_next : (i mask j k r : ℕ) (m : Marked) → slice_get p.code i ≡ Some m → mask_at es i ≡ Some mask → Edge p false i j → mask_at es j ≡ Some k
      → sends m r ≡ true → has k r ≡ false
  not_next i mask j k r m there has_mask e next h =
      false_from_ne_true (has k r) (λ yes.
      let there_too = next_has_it i mask j k r m there has_mask e next yes in
      let clean = clean_at i mask m there has_mask in
      elim (or_cases (m.forward && dests m.op r) (released m.op r) h) [
        | inl f ↦ both (next_has p es m i r) (excluded (m.forward && dests m.op r) (next_has p es m i r) (clean.forwarded_in_next r) f) there_too
        | inr l ↦ both (next_has p es m i r) (excluded (released m.op r) (next_has p es m i r) (clean.released_in_next r) l) there_too
      ])
    where
      both : (b : Bool) → b ≡ false → b ≡ true → ⊥
      both b x y = cc

  writes : (i mask r : ℕ) (m : Marked) → slice_get p.code i ≡ Some m → mask_at es i ≡ Some mask → dests m.op r ≡ true → has mask r ≡ true
  writes i mask r m there has_mask h = implied (dests m.op r) (has mask r) ((clean_at i mask m there has_mask).lacks_destination r) h

-- along a path from a place with a mask, each place has one, and it only shrinks
pub record Shrunk (es : List (ℕ × ℕ)) (mask k : ℕ) : Type 0 where
  pub later : ℕ
  pub has_mask : mask_at es k ≡ Some later
  pub within : (r : ℕ) → has later r ≡ true → has mask r ≡ true

shrunk : (p : Listing) (d : Descriptor) (es : List (ℕ × ℕ)) → AllRight p d es (places d.entry es) → (i mask k : ℕ) → mask_at es i ≡ Some mask → Path p i k → Shrunk es mask k
shrunk p d es all i mask k has_mask stay = record { later = mask; has_mask = has_mask; within = λ r h. h }
shrunk p d es all i mask k has_mask (onward {j = j} path e) =
    let before : Shrunk es mask j = shrunk p d es all i mask j has_mask path in
    let next : (l : ℕ) × (mask_at es k ≡ Some l) = next_mask p d es all j before.later k e.at e.is_there before.has_mask e in
    record {
      later = next.0;
      has_mask = next.1;
      within = λ r h. before.within r (shrinks p d es all j before.later k next.0 r e.at e.is_there before.has_mask e next.1 h);
    }

-- the entry's mask lies in the create mask
entry_created : (p : Listing) (d : Descriptor) (es : List (ℕ × ℕ)) (mask : ℕ) (m : Marked) → AllRight p d es (places d.entry es)
    → slice_get p.code d.entry ≡ Some m → mask_at es d.entry ≡ Some mask → (r : ℕ) → has mask r ≡ true → has d.create r ≡ true
entry_created p d es mask m all there has_mask r h =
    implied (has mask r) (has d.create r)
    (at_true (nat_eq d.entry d.entry) (has mask r && not (has d.create r)) ((clean_at p d es all d.entry mask m there has_mask).exceeds_create r) (eq-eqb d.entry d.entry refl)) h

target_begins : (test : ℕ → Bool) (xs : List ℕ) (j : ℕ) → list_any (λ k. not (test k)) xs ≡ false → list_any (nat_eq j) xs ≡ true → test j ≡ true
target_begins test [] j none h = absurd (cc)
target_begins test (x ∷ xs) j none h = elim (or_cases (nat_eq j x) (list_any (nat_eq j) xs) h) [
  | inl e ↦ subst (λ n. test n ≡ true) (sym (eqb-true j x e)) (not-false (test x) (or_parts (not (test x)) (list_any (λ k. not (test k)) xs) none).0)
  | inr rest ↦ target_begins test xs j (or_parts (not (test x)) (list_any (λ k. not (test k)) xs) none).1 rest
]

always : (s : Stop) → stops_always s ≡ true → s ≡ stop.Always
always stop.None h = absurd (cc)
always stop.Always h = refl
always stop.Taken h = absurd (cc)
always stop.NotTaken h = absurd (cc)

pub sound_task : (p : Listing) (d : Descriptor) (es : List (ℕ × ℕ)) → d.entry < length p.code → AllRight p d es (places d.entry es) → SoundTask p d
sound_task p d es begins all = record {
  writes_created = λ r w.
      let s = at w.place w.comes in
      created r (s.within r (writes p d es all w.place s.later r w.at w.is_there s.has_mask w.writes));
  sends_created = λ i m path there r h.
      let s = at i path in
      implied (sends m r) (has d.create r) ((clean_at p d es all i s.later m there s.has_mask).sent_not_created r) h;
  sends_last = λ i m path there r h j e w.
      let s = at i path in
      let next = next_mask p d es all i s.later j m there s.has_mask e in
      let last = shrunk p d es all j next.0 w.place next.1 w.comes in
      both (has next.0 r) (not_next p d es all i s.later j next.0 r m there s.has_mask e next.1 h)
      (last.within r (writes p d es all w.place last.later r w.at w.is_there last.has_mask w.writes));
  exits_listed = λ i j path e.
      let s = at i path in
      not-false (is_target d j)
      (unlisted p true i j e.at (λ k. not (is_target d k)) e.is_there e (clean_at p d es all i s.later e.at e.is_there s.has_mask).exit_not_listed);
  targets_begin = λ j h.
      target_begins (is_entry p) d.targets j
      (at_true (nat_eq d.entry d.entry) (list_any (λ k. not (is_entry p k)) d.targets)
      (clean_at p d es all d.entry entry.0 first.0 first.1 entry.1).target_not_entry (eq-eqb d.entry d.entry refl)) h;
  stays_inside = λ i j path e.
      let s = at i path in inside p d es all i s.later j e.at e.is_there s.has_mask e;
  indirect_stops = λ i m path there h.
      let s = at i path in
      always m.stop (implied (is_indirect m.op) (stops_always m.stop) (clean_at p d es all i s.later m there s.has_mask).indirect_goes_on h);
}
  where
    first : (m : Marked) × (slice_get p.code d.entry ≡ Some m)
    first = some_there p.code d.entry begins

    entry : (k : ℕ) × (mask_at es d.entry ≡ Some k)
    entry = entry_masked p d es es first.0 first.1 all

    created : (r : ℕ) → has entry.0 r ≡ true → has d.create r ≡ true
    created = entry_created p d es entry.0 first.0 all first.1 entry.1

    at : (i : ℕ) → Path p d.entry i → Shrunk es entry.0 i
    at i path = shrunk p d es all d.entry entry.0 i entry.1 path

    both : (b : Bool) → b ≡ false → b ≡ true → ⊥
    both b x y = cc

pub sound : (p : Listing) (cert : List (List (ℕ × ℕ))) → IsWellFormed p
    → ((t : ℕ) (d : Descriptor) → slice_get p.tasks t ≡ Some d → AllRight p d (list_of cert t) (places d.entry (list_of cert t)))
    → Sound p
sound p cert well right t d there = sound_task p d (list_of cert t) (entry_inside p t d well there) (right t d there)

pub place_says : (p : Listing) (d : Descriptor) (es : List (ℕ × ℕ)) (i mask : ℕ) (m : Marked) → AllRight p d es (places d.entry es)
    → slice_get p.code i ≡ Some m → mask_at es i ≡ Some mask → d.entry < length p.code → PlaceSays p d es i m mask
place_says p d es i mask m all there has_mask begins = record {
  destinations = λ r h. writes p d es all i mask r m there has_mask h;
  next_inside = λ j e. inside p d es all i mask j m there has_mask e;
  next_masked = λ j e. next_mask p d es all i mask j m there has_mask e;
  next_within = λ j k r e next h. shrinks p d es all i mask j k r m there has_mask e next h;
  sent = λ j k r e next h. not_next p d es all i mask j k r m there has_mask e next h;
  created = λ path r h.
      let s = shrunk p d es all d.entry entry.0 i entry.1 path in
      let same : mask ≡ s.later = cc (has_mask, s.has_mask) in
      entry_created p d es entry.0 first.0 all first.1 entry.1 r (s.within r (subst (λ n. has n r ≡ true) same h));
}
  where
    first : (m : Marked) × (slice_get p.code d.entry ≡ Some m)
    first = some_there p.code d.entry begins

    entry : (k : ℕ) × (mask_at es d.entry ≡ Some k)
    entry = entry_masked p d es es first.0 first.1 all

pub entry_says : (p : Listing) (d : Descriptor) (es : List (ℕ × ℕ)) → AllRight p d es (places d.entry es) → d.entry < length p.code → (k : ℕ) × (mask_at es d.entry ≡ Some k)
entry_says p d es all begins = let first = some_there p.code d.entry begins in entry_masked p d es es first.0 first.1 all
