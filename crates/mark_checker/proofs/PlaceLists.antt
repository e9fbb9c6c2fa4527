-- The places of a task one after another: what is left of them after each entry of the list.
use Rattle.std.proofs.Common.{◌≡◌, ℕ, ◌+◌, ◌<◌, ◌≤◌, Bool, true, false, ◌&&◌, nat_eq, nat_lt, if◌then◌else◌, Option, Some, None, List, [], ◌∷◌, ◌++◌, length, get_or, drop, slice_get, refl, sym, ◌∙◌, ap, subst, arith, suc, zero, inl, inr, append_assoc, append-nil, add-one, drop-cons}
use Rattle.std.specs.Prelude.{map, filter}
use Rattle.std.specs.List.{flat_map, range_with_len}
use Rattle.std.proofs.lemmas.Bool.{eq-eqb, cases_eq}
use Rattle.std.proofs.lemmas.Option.{slice_get-get_or, slice_get_past, slice_get_within}
use Rattle.task_descriptor.specs.Listing.{Listing, IsWellFormed}
use Rattle.task_descriptor.specs.declared.descriptor.Marked.{Marked}
use Rattle.task_descriptor.specs.declared.descriptor.Descriptor.{Descriptor}
use Rattle.task_graph.proofs.Listed.{takes_one, takes_none}
use Rattle.mask_certificate.specs.Lists.{list_of}
use Rattle.mark_checker.specs.declared.finding.Rule.{Rule}
use Rattle.mark_checker.specs.declared.finding.Finding.{Finding}
use Rattle.mark_checker.specs.Rules.{conditions, each, found, found_at, rules_at, masked, places, task_rules, rules}
use Rattle.mark_checker.specs.Places.{IsRight, AllRight, IsAccepted}
use Rattle.mark_checker.specs.CheckerSteps.{begun_after, left_places}
use Rattle.mark_checker.proofs.Findings.{NoneNamed, nothing_named, right_nothing, both_empty}
use Rattle.mark_checker.proofs.Acceptance.{some_there, sound}

-- an element that was read
pub there : {X : Type 0} (xs read : List X) (i : ℕ) (x : X) → read ≡ xs → i < length read → ((d : X) → x ≡ get_or read i d) → slice_get xs i ≡ Some x
there {X} xs read i x same within is =
    subst (λ (ys : List X). slice_get ys i ≡ Some x) same
    (slice_get-get_or read i x within ∙ ap (λ (y : X). Some y) (sym (is x)))

pub not_there : {X : Type 0} (xs read : List X) (i : ℕ) → read ≡ xs → length read ≤ i → slice_get xs i ≡ None
not_there {X} xs read i same past = subst (λ (ys : List X). slice_get ys i ≡ None) same (slice_get_past read i past)

-- findings of one place
pub at_place : (p : Listing) (d : Descriptor) (es : List (ℕ × ℕ)) (t i : ℕ) (mask : Option ℕ) (m : Marked) → slice_get p.code i ≡ Some m
    → rules_at p d es t (i, mask) ≡ found t i (conditions p d es i m mask)
at_place p d es t i mask m is = ap (λ (o : Option Marked). found_at o p d es t (i, mask)) is

pub beside_place : (p : Listing) (d : Descriptor) (es : List (ℕ × ℕ)) (t i : ℕ) (mask : Option ℕ) → slice_get p.code i ≡ None
    → rules_at p d es t (i, mask) ≡ []
beside_place p d es t i mask is = ap (λ (o : Option Marked). found_at o p d es t (i, mask)) is

-- an entry without a mask is found
pub bare_entry_found : (p : Listing) (d : Descriptor) (es : List (ℕ × ℕ)) (t : ℕ) → d.entry < length p.code → rules_at p d es t (d.entry, None) ≡ [] → ⊥
bare_entry_found p d es t inside nothing =
    let first = some_there p.code d.entry inside in
    let none : NoneNamed (conditions p d es d.entry first.0 None) =
    nothing_named t d.entry (conditions p d es d.entry first.0 None) (sym (at_place p d es t d.entry None first.0 first.1) ∙ nothing) in
    wrong (nat_eq d.entry d.entry) (eq-eqb d.entry d.entry refl) none.entry_without_mask
  where
    wrong : (b : Bool) → b ≡ true → (b && true) ≡ false → ⊥
    wrong true e h = cc
    wrong false e h = cc

-- the next entry of the list
step_tests : (less same : Bool) (entry : ℕ) (x : ℕ × ℕ) (rest : List (ℕ × ℕ)) (now : Bool)
    → (if less then Some false else if same then Some true else None) ≡ Some now
    → (if less then (x.0, Some x.1) ∷ places entry rest else if same then masked (x ∷ rest) else (entry, None) ∷ masked (x ∷ rest))
    ≡ (x.0, Some x.1) ∷ left_places now entry rest
step_tests true same entry x rest now h = let e : false ≡ now = cc in ap (λ (b : Bool). (x.0, Some x.1) ∷ left_places b entry rest) e
step_tests false true entry x rest now h = let e : true ≡ now = cc in ap (λ (b : Bool). (x.0, Some x.1) ∷ left_places b entry rest) e
step_tests false false entry x rest now h = absurd (cc)

pub left_step : (begun : Bool) (entry : ℕ) (x : ℕ × ℕ) (rest : List (ℕ × ℕ)) (now : Bool) → begun_after begun x.0 entry ≡ Some now
    → left_places begun entry (x ∷ rest) ≡ (x.0, Some x.1) ∷ left_places now entry rest
left_step true entry x rest now h = let e : true ≡ now = cc in ap (λ (b : Bool). (x.0, Some x.1) ∷ left_places b entry rest) e
left_step false entry x rest now h = step_tests (nat_lt x.0 entry) (nat_eq x.0 entry) entry x rest now h

passed_tests : (less same : Bool) (entry : ℕ) (x : ℕ × ℕ) (rest : List (ℕ × ℕ))
    → (if less then Some false else if same then Some true else None) ≡ None
    → (if less then (x.0, Some x.1) ∷ places entry rest else if same then masked (x ∷ rest) else (entry, None) ∷ masked (x ∷ rest))
    ≡ (entry, None) ∷ (x.0, Some x.1) ∷ left_places true entry rest
passed_tests true same entry x rest h = absurd (cc)
passed_tests false true entry x rest h = absurd (cc)
passed_tests false false entry x rest h = refl

pub left_passed : (begun : Bool) (entry : ℕ) (x : ℕ × ℕ) (rest : List (ℕ × ℕ)) → begun_after begun x.0 entry ≡ None
    → left_places begun entry (x ∷ rest) ≡ (entry, None) ∷ (x.0, Some x.1) ∷ left_places true entry rest
left_passed true entry x rest h = absurd (cc)
left_passed false entry x rest h = passed_tests (nat_lt x.0 entry) (nat_eq x.0 entry) entry x rest h

next_of : (entries : List (ℕ × ℕ)) (k : ℕ) (x : ℕ × ℕ) → k < length entries → x ≡ get_or entries k x → drop k entries ≡ x ∷ drop (k + 1) entries
next_of entries k x less is =
    drop-cons entries k x less ∙ ap (λ (y : ℕ × ℕ). y ∷ drop (suc k) entries) (sym is) ∙ ap (λ (n : ℕ). x ∷ drop n entries) (sym (add-one k))

-- what the loops over a list keep: from the places that are left to all places
pub right_step : (p : Listing) (d : Descriptor) (es entries : List (ℕ × ℕ)) (begun now : Bool) (k : ℕ) (x : ℕ × ℕ)
    → k < length entries → x ≡ get_or entries k x → begun_after begun x.0 d.entry ≡ Some now → IsRight p d es (x.0, Some x.1)
    → (AllRight p d es (left_places begun d.entry (drop k entries)) → AllRight p d es (places d.entry es))
    → AllRight p d es (left_places now d.entry (drop (k + 1) entries)) → AllRight p d es (places d.entry es)
right_step p d es entries begun now k x less is step right before rest =
    before (subst (AllRight p d es) (sym (ap (left_places begun d.entry) (next_of entries k x less is) ∙ left_step begun d.entry x (drop (k + 1) entries) now step)) (right, rest))

pub nothing_step : (p : Listing) (d : Descriptor) (es entries : List (ℕ × ℕ)) (t : ℕ) (begun now : Bool) (k : ℕ) (x : ℕ × ℕ)
    → k < length entries → x ≡ get_or entries k x → begun_after begun x.0 d.entry ≡ Some now
    → flat_map (rules_at p d es t) (left_places begun d.entry (drop k entries)) ≡ []
    → (rules_at p d es t (x.0, Some x.1) ≡ []) × (flat_map (rules_at p d es t) (left_places now d.entry (drop (k + 1) entries)) ≡ [])
nothing_step p d es entries t begun now k x less is step nothing =
    both_empty (rules_at p d es t (x.0, Some x.1)) (flat_map (rules_at p d es t) (left_places now d.entry (drop (k + 1) entries)))
    (sym (ap (flat_map (rules_at p d es t)) (ap (left_places begun d.entry) (next_of entries k x less is) ∙ left_step begun d.entry x (drop (k + 1) entries) now step)) ∙ nothing)

pub nothing_passed : (p : Listing) (d : Descriptor) (es entries : List (ℕ × ℕ)) (t : ℕ) (begun : Bool) (k : ℕ) (x : ℕ × ℕ)
    → k < length entries → x ≡ get_or entries k x → begun_after begun x.0 d.entry ≡ None → d.entry < length p.code
    → flat_map (rules_at p d es t) (left_places begun d.entry (drop k entries)) ≡ [] → ⊥
nothing_passed p d es entries t begun k x less is step inside nothing =
    bare_entry_found p d es t inside
    (both_empty (rules_at p d es t (d.entry, None)) (flat_map (rules_at p d es t) ((x.0, Some x.1) ∷ left_places true d.entry (drop (k + 1) entries)))
    (sym (ap (flat_map (rules_at p d es t)) (ap (left_places begun d.entry) (next_of entries k x less is) ∙ left_passed begun d.entry x (drop (k + 1) entries) step)) ∙ nothing)).0

-- the whole of a task and of a program
pub all_right_nothing : (p : Listing) (d : Descriptor) (es : List (ℕ × ℕ)) (t : ℕ) (ps : List (ℕ × Option ℕ)) → AllRight p d es ps → flat_map (rules_at p d es t) ps ≡ []
all_right_nothing p d es t [] all = refl
all_right_nothing p d es t (x ∷ ps) all = ap (λ zs. zs ++ flat_map (rules_at p d es t) ps) (right_nothing p d es t x all.0) ∙ all_right_nothing p d es t ps all.1

range_nothing : {X : Type 0} (f : ℕ → List X) (a n : ℕ) → ((k : ℕ) → a ≤ k → k < a + n → f k ≡ []) → flat_map f (range_with_len a n) ≡ []
range_nothing f a zero each = refl
range_nothing f a (suc n) each = ap (λ zs. zs ++ flat_map f (range_with_len (a + 1) n)) (each a (omega arith) (omega arith)) ∙ range_nothing f (a + 1) n (λ k low high. each k (omega arith) (omega arith))

pub nothing_in_range : {X : Type 0} (f : ℕ → List X) (a n : ℕ) → flat_map f (range_with_len a n) ≡ [] → (k : ℕ) → a ≤ k → k < a + n → f k ≡ []
nothing_in_range f a zero h k low high = absurd (omega arith)
nothing_in_range f a (suc n) h k low high =
    let both = both_empty (f a) (flat_map f (range_with_len (a + 1) n)) h in
    elim (cases_eq k a) [
      | inl e ↦ ap f e ∙ both.0
      | inr ne ↦ nothing_in_range f (a + 1) n both.1 k (omega arith) (omega arith)
    ]

task_nothing : (o : Option Descriptor) (p : Listing) (es : List (ℕ × ℕ)) (t : ℕ) → ((d : Descriptor) → o ≡ Some d → AllRight p d es (places d.entry es)) → task_rules o p es t ≡ []
task_nothing None p es t right = refl
task_nothing (Some d) p es t right = all_right_nothing p d es t (places d.entry es) (right d refl)

pub accepted : (p : Listing) (cert : List (List (ℕ × ℕ))) → IsWellFormed p
    → ((t : ℕ) (d : Descriptor) → t < length p.tasks → slice_get p.tasks t ≡ Some d → AllRight p d (list_of cert t) (places d.entry (list_of cert t)))
    → IsAccepted p cert
accepted p cert well right = record {
  nothing_found = range_nothing (rules p cert) 0 (length p.tasks) (λ t low high. task_nothing (slice_get p.tasks t) p (list_of cert t) t (all t));
  right = all;
  sound = sound p cert well all;
}
  where
    all : (t : ℕ) (d : Descriptor) → slice_get p.tasks t ≡ Some d → AllRight p d (list_of cert t) (places d.entry (list_of cert t))
    all t d is = right t d (slice_get_within p.tasks t d is) is

-- one finding more for a register
abbrev pub up_to : (t i : ℕ) → Rule → (ℕ → Bool) → ℕ → List Finding
up_to t i rule test n = map (λ r. let f : Finding = record { task = t; index = i; rule = rule; reg = Some r } in f) (filter test (range_with_len 0 n))

pub each_is : (t i : ℕ) (rule : Rule) (test : ℕ → Bool) → up_to t i rule test 34 ≡ each t i rule test
unfolding each
each_is t i rule test = refl

map_push : (f : ℕ → Finding) (xs : List ℕ) (n : ℕ) → map f (xs ++ n ∷ []) ≡ map f xs ++ f n ∷ []
map_push f [] n = refl
map_push f (x ∷ xs) n = ap (λ (ys : List Finding). f x ∷ ys) (map_push f xs n)

pub one_more : (t i : ℕ) (rule : Rule) (test : ℕ → Bool) (n : ℕ) → test n ≡ true
    → up_to t i rule test (n + 1) ≡ up_to t i rule test n ++ (let f : Finding = record { task = t; index = i; rule = rule; reg = Some n } in f) ∷ []
one_more t i rule test n e =
    ap (map (λ r. let f : Finding = record { task = t; index = i; rule = rule; reg = Some r } in f)) (takes_one test n e)
    ∙ map_push (λ r. record { task = t; index = i; rule = rule; reg = Some r }) (filter test (range_with_len 0 n)) n

pub none_more : (t i : ℕ) (rule : Rule) (test : ℕ → Bool) (n : ℕ) → test n ≡ false → up_to t i rule test (n + 1) ≡ up_to t i rule test n
none_more t i rule test n e = ap (map (λ r. let f : Finding = record { task = t; index = i; rule = rule; reg = Some r } in f)) (takes_none test n e)

-- the findings of a task that is there
pub rules_there : (p : Listing) (cert : List (List (ℕ × ℕ))) (t : ℕ) (d : Descriptor) → slice_get p.tasks t ≡ Some d
    → rules p cert t ≡ flat_map (rules_at p d (list_of cert t) t) (places d.entry (list_of cert t))
rules_there p cert t d is = ap (λ (o : Option Descriptor). task_rules o p (list_of cert t) t) is

pub rules_beside : (p : Listing) (cert : List (List (ℕ × ℕ))) (t : ℕ) → slice_get p.tasks t ≡ None → rules p cert t ≡ []
rules_beside p cert t is = ap (λ (o : Option Descriptor). task_rules o p (list_of cert t) t) is

drop_all : (xs : List (ℕ × ℕ)) (k : ℕ) → length xs ≤ k → drop k xs ≡ []
drop_all [] zero h = refl
drop_all [] (suc k) h = refl
drop_all (x ∷ xs) zero h = absurd (omega arith)
drop_all (x ∷ xs) (suc k) h = drop_all xs k (omega arith)

-- at the end of the list nothing is found
pub ends_begun : (p : Listing) (d : Descriptor) (es entries : List (ℕ × ℕ)) (t : ℕ) (begun : Bool) (k : ℕ) → length entries ≤ k → d.entry < length p.code
    → flat_map (rules_at p d es t) (left_places begun d.entry (drop k entries)) ≡ [] → begun ≡ true
ends_begun p d es entries t true k past inside nothing = refl
ends_begun p d es entries t false k past inside nothing =
    absurd (bare_entry_found p d es t inside
    (both_empty (rules_at p d es t (d.entry, None)) [] (sym (ap (λ (xs : List (ℕ × ℕ)). flat_map (rules_at p d es t) (places d.entry xs)) (drop_all entries k past)) ∙ nothing)).0)

flat_range : {X : Type 0} (f : ℕ → List X) (a n : ℕ) → flat_map f (range_with_len a (suc n)) ≡ flat_map f (range_with_len a n) ++ f (a + n)
flat_range f a zero = append-nil (f a) ∙ ap f (let e : a ≡ a + 0 = omega arith in e)
flat_range f a (suc n) =
    let e : (a + 1) + n ≡ a + suc n = omega arith in
    ap (λ zs. f a ++ zs) (flat_range f (a + 1) n ∙ ap (λ (k : ℕ). flat_map f (range_with_len (a + 1) n) ++ f k) e)
    ∙ sym (append_assoc (f a) (flat_map f (range_with_len (a + 1) n)) (f (a + suc n)))

pub range_more : {X : Type 0} (f : ℕ → List X) (n : ℕ) → flat_map f (range_with_len 0 n) ++ f n ≡ flat_map f (range_with_len 0 (n + 1))
range_more f n =
    let e : n ≡ 0 + n = omega arith in
    ap (λ (k : ℕ). flat_map f (range_with_len 0 n) ++ f k) e
    ∙ sym (flat_range f 0 n) ∙ ap (λ (k : ℕ). flat_map f (range_with_len 0 k)) (sym (add-one n))

pub one_task_more : (p : Listing) (cert : List (List (ℕ × ℕ))) (n : ℕ)
    → flat_map (rules p cert) (range_with_len 0 n) ++ rules p cert n ≡ flat_map (rules p cert) (range_with_len 0 (n + 1))
one_task_more p cert n = range_more (rules p cert) n
