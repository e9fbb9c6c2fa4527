-- A program with other forward bits and create masks: what stays, that it is well formed, and that it has
-- the same paths.
use Rattle.annotator.proofs.Imports.{◌≡◌, ℕ, ◌+◌, ◌<◌, ◌≤◌, ◌⊎◌, ◌↔◌, Bool, true, false, not, ◌&&◌, ◌||◌, nat_lt, nat_le, nat_eq, cond, Option, Some, None, List, [], ◌∷◌, ◌++◌, take, length, get_or, set, slice_get, refl, sym, ◌∙◌, ap, subst, arith, zero, suc, inl, inr, add-one, position, list_any, position_or_len, or_cases, or_parts, or_from, cond-false, cases_Bool, ltb-true, ltb-false, false_from_ne_true, fails_before_first, slice_get_within, slice_get-get_or, get_or_from_slice_get, has, dests, released, Op, Listing, IsWellFormed, is_too_many, has_no_task, has_bad_entry, collide, has_duplicate, has_bad_mask, is_bad_mark, has_destination, stop_fits, release_fits, starts_at_no_entry, mark_fault, registers, build_fault, passes, Marked, Descriptor, Edge, edge, leaves, Path, stay, onward, MayWrite, Reaches, is_marked, list_of, LeastList, IsLeast, Produces, IsMember, WritesLast, IsRemarked, IsRedescribed, IsProposed, produces, AreCreates, AreForwards, with_forwards, with_creates, with_marks}
use Rattle.std.specs.Str.{bytes_eq}
use Rattle.std.proofs.lemmas.List.Quantifiers.{position-Some}
use Rattle.mips_instructions.proofs.RowLemmas.{zero_not_dest}
use Rattle.mips_instructions.specs.declared.instruction.Op.TheVariants.{Release}
use Rattle.task_descriptor.specs.declared.program.BuildFault.{BuildFault}

-- an instruction with another forward bit, a descriptor with another create mask
abbrev pub forwarding : Marked → Bool → Marked
forwarding m bit = record m { forward = bit }

abbrev pub creating : Descriptor → ℕ → Descriptor
creating d create = record d { create = create }

-- ---- the lists
pub forwards_left : (ms : List Marked) → with_forwards ms [] ≡ ms
forwards_left [] = refl
forwards_left (m ∷ ms) = refl

forwards_step : (ms : List Marked) (bits : List Bool) (i : ℕ) (d : Marked) → i < length bits → length bits ≡ length ms
    → set (with_forwards ms (take i bits)) i (forwarding (get_or (with_forwards ms (take i bits)) i d) (get_or bits i false)) ≡ with_forwards ms (take (suc i) bits)
forwards_step ms [] i d less sized = absurd (omega arith)
forwards_step [] (b ∷ bits) i d less sized = absurd (omega arith)
forwards_step (m ∷ ms) (b ∷ bits) zero d less sized = ap (λ (xs : List Marked). forwarding m b ∷ xs) (sym (forwards_left ms))
forwards_step (m ∷ ms) (b ∷ bits) (suc i) d less sized = ap (λ (xs : List Marked). forwarding m b ∷ xs) (forwards_step ms bits i d (omega arith) (omega arith))

pub forwards_set : (ms now : List Marked) (bits : List Bool) (i : ℕ) (d : Marked) → i < length bits → length bits ≡ length ms → now ≡ with_forwards ms (take i bits)
    → set now i (forwarding (get_or now i d) (get_or bits i false)) ≡ with_forwards ms (take (i + 1) bits)
forwards_set ms now bits i d less sized is =
    ap (λ (xs : List Marked). set xs i (forwarding (get_or xs i d) (get_or bits i false))) is
    ∙ forwards_step ms bits i d less sized ∙ ap (λ (n : ℕ). with_forwards ms (take n bits)) (sym (add-one i))

pub creates_left : (ds : List Descriptor) → with_creates ds [] ≡ ds
creates_left [] = refl
creates_left (d ∷ ds) = refl

creates_step : (ds : List Descriptor) (creates : List ℕ) (i : ℕ) (d : Descriptor) → i < length creates → length creates ≡ length ds
    → set (with_creates ds (take i creates)) i (creating (get_or (with_creates ds (take i creates)) i d) (get_or creates i 0)) ≡ with_creates ds (take (suc i) creates)
creates_step ds [] i d less sized = absurd (omega arith)
creates_step [] (c ∷ creates) i d less sized = absurd (omega arith)
creates_step (e ∷ ds) (c ∷ creates) zero d less sized = ap (λ (xs : List Descriptor). creating e c ∷ xs) (sym (creates_left ds))
creates_step (e ∷ ds) (c ∷ creates) (suc i) d less sized = ap (λ (xs : List Descriptor). creating e c ∷ xs) (creates_step ds creates i d (omega arith) (omega arith))

pub creates_set : (ds now : List Descriptor) (creates : List ℕ) (i create : ℕ) (d : Descriptor) → i < length creates → length creates ≡ length ds → now ≡ with_creates ds (take i creates)
    → create ≡ get_or creates i 0 → set now i (creating (get_or now i d) create) ≡ with_creates ds (take (i + 1) creates)
creates_set ds now creates i create d less sized is value =
    (λ k. set (is k) i (creating (get_or (is k) i d) (value k)))
    ∙ creates_step ds creates i d less sized ∙ ap (λ (n : ℕ). with_creates ds (take n creates)) (sym (add-one i))

length-with_forwards : (ms : List Marked) (bits : List Bool) → length (with_forwards ms bits) ≡ length ms
length-with_forwards [] bits = refl
length-with_forwards (m ∷ ms) [] = refl
length-with_forwards (m ∷ ms) (b ∷ bits) = ap (λ (n : ℕ). suc n) (length-with_forwards ms bits)

length-with_creates : (ds : List Descriptor) (creates : List ℕ) → length (with_creates ds creates) ≡ length ds
length-with_creates [] creates = refl
length-with_creates (d ∷ ds) [] = refl
length-with_creates (d ∷ ds) (c ∷ creates) = ap (λ (n : ℕ). suc n) (length-with_creates ds creates)

forwards_at : (ms : List Marked) (bits : List Bool) (i : ℕ) (m : Marked) → length bits ≡ length ms → slice_get ms i ≡ Some m → slice_get (with_forwards ms bits) i ≡ Some (forwarding m (is_marked bits i))
forwards_at [] bits i m sized there = absurd (cc)
forwards_at (x ∷ ms) [] i m sized there = absurd (omega arith)
forwards_at (x ∷ ms) (b ∷ bits) zero m sized there = let same : x ≡ m = cc in ap (λ (y : Marked). Some (forwarding y b)) same
forwards_at (x ∷ ms) (b ∷ bits) (suc i) m sized there = forwards_at ms bits i m (omega arith) there

creates_at : (ds : List Descriptor) (creates : List ℕ) (t : ℕ) (d : Descriptor) → length creates ≡ length ds → slice_get ds t ≡ Some d → slice_get (with_creates ds creates) t ≡ Some (creating d (get_or creates t 0))
creates_at [] creates t d sized there = absurd (cc)
creates_at (x ∷ ds) [] t d sized there = absurd (omega arith)
creates_at (x ∷ ds) (c ∷ creates) zero d sized there = let same : x ≡ d = cc in ap (λ (y : Descriptor). Some (creating y c)) same
creates_at (x ∷ ds) (c ∷ creates) (suc t) d sized there = creates_at ds creates t d (omega arith) there

-- ---- well formed
any_kept : (test : Descriptor → Bool) (ds : List Descriptor) (creates : List ℕ) → ((d : Descriptor) (c : ℕ) → test (creating d c) ≡ test d) → list_any test (with_creates ds creates) ≡ list_any test ds
any_kept test [] creates same = refl
any_kept test (d ∷ ds) [] same = refl
any_kept test (d ∷ ds) (c ∷ creates) same = λ k. same d c k || any_kept test ds creates same k

duplicate_kept : (ds : List Descriptor) (creates : List ℕ) → has_duplicate (with_creates ds creates) ≡ has_duplicate ds
duplicate_kept [] creates = refl
duplicate_kept (d ∷ ds) [] = refl
duplicate_kept (d ∷ ds) (c ∷ creates) = λ k. any_kept (collide d) ds creates (λ e b. refl) k || duplicate_kept ds creates k

no_task_kept : (ds : List Descriptor) (creates : List ℕ) → has_no_task (with_creates ds creates) ≡ has_no_task ds
no_task_kept [] creates = refl
no_task_kept (d ∷ ds) [] = refl
no_task_kept (d ∷ ds) (c ∷ creates) = refl

none_of : {X : Type 0} (test : X → Bool) (xs : List X) → ((i : ℕ) (x : X) → slice_get xs i ≡ Some x → test x ≡ false) → list_any test xs ≡ false
none_of test [] none = refl
none_of test (x ∷ xs) none = or_from (test x) (list_any test xs) (none 0 x refl) (none_of test xs (λ i y at. none (suc i) y at))

-- where no element passes a test there is no position, and the other way
nowhere : {X : Type 0} (test : X → Bool) (xs : List X) → ((i : ℕ) (x : X) → slice_get xs i ≡ Some x → test x ≡ false) → position test xs ≡ None
nowhere {X} test xs none = by_case (position test xs) refl
  where
    by_case : (o : Option ℕ) → position test xs ≡ o → position test xs ≡ None
    by_case None e = e
    by_case (Some k) e = absurd (found e)
      where
        some : (ys : List X) (j : ℕ) → j < length ys → (x : X) × (slice_get ys j ≡ Some x)
        some [] j less = absurd (omega arith)
        some (y ∷ ys) zero less = (y, refl)
        some (y ∷ ys) (suc j) less = some ys j (omega arith)

        first : (ys : List X) → (j : ℕ) → position test ys ≡ Some j → j < length ys
        first [] j h = absurd (cc)
        first (y ∷ ys) j h = (position-Some test (y ∷ ys) j y h).0

        found : position test xs ≡ Some k → ⊥
        found h =
            let x = some xs k (first xs k h) in
            let passes = (position-Some test xs k x.0 h).1 in
            both (test x.0) (none k x.0 x.1) (sym (ap test (get_or_from_slice_get xs k x.0 x.0 x.1)) ∙ passes)
          where
            both : (b : Bool) → b ≡ false → b ≡ true → ⊥
            both b f t = cc

fails_at : {X : Type 0} (test : X → Bool) (xs : List X) → position test xs ≡ None → (i : ℕ) (x : X) → slice_get xs i ≡ Some x → test x ≡ false
fails_at {X} test xs none i x at =
    ap test (sym (get_or_from_slice_get xs i x x at)) ∙ fails_before_first test xs i x (omega (arith, slice_get_within xs i x at, past (nat_lt (position_or_len test xs) (length xs)) refl none))
  where
    past : (b : Bool) → nat_lt (position_or_len test xs) (length xs) ≡ b → cond b (Some (position_or_len test xs)) None ≡ None → length xs ≤ position_or_len test xs
    past true e h = absurd (cc)
    past false e h = ltb-false (position_or_len test xs) (length xs) e

-- a mark fits again with a forward bit that fits
fits_again : (m : Marked) (bit : Bool) → is_bad_mark m ≡ false → (bit ≡ true → has_destination m.op ≡ true) → is_bad_mark (forwarding m bit) ≡ false
fits_again m bit good fits = three bit (has_destination m.op) (not (stop_fits m.stop m.op)) (not (release_fits m.op)) m.forward good fits
  where
    three : (bit some stop release was : Bool) → (was && not some || stop || release) ≡ false → (bit ≡ true → some ≡ true) → (bit && not some || stop || release) ≡ false
    three true true stop release true h f = h
    three true true stop release false h f = h
    three true false stop release was h f = let wrong : false ≡ true = f refl in absurd (cc)
    three false some stop release true h f = last some stop release h
      where
        last : (some stop release : Bool) → (not some || stop || release) ≡ false → (false || stop || release) ≡ false
        last true stop release h = h
        last false stop release h = absurd (cc)
    three false some stop release false h f = h

pub forward_fits : (p : Listing) (i : ℕ) (m : Marked) → IsWellFormed p → slice_get p.code i ≡ Some m → m.forward ≡ true → has_destination m.op ≡ true
forward_fits p i m well there forward =
    has_one m.forward (has_destination m.op) (not (stop_fits m.stop m.op)) (not (release_fits m.op)) (fails_at is_bad_mark p.code (passes p well).marks i m there) forward
  where
    has_one : (was some stop release : Bool) → (was && not some || stop || release) ≡ false → was ≡ true → some ≡ true
    has_one true true stop release h e = refl
    has_one true false stop release h e = absurd (cc)
    has_one false some stop release h e = absurd (cc)

-- register 0 is released by no instruction of a well-formed program
not_released : (op : Op) → not (release_fits op) ≡ false → released op 0 ≡ false
not_released (Release set) h = right_false (list_any (has set) registers) (has set 0) h
  where
    right_false : (a b : Bool) → not (a && not b) ≡ false → b ≡ false
    right_false true true h = absurd (cc)
    right_false true false h = refl
    right_false false b h = absurd (cc)
not_released _ h = refl

-- register 0 is produced by no instruction of a well-formed program
zero_never : (p : Listing) (d : Descriptor) → IsWellFormed p → Produces p d 0 → ⊥
zero_never p d well w = elim (or_cases (dests w.at.op 0) (released w.at.op 0) w.produced) [
  | inl a ↦ both (dests w.at.op 0) (zero_not_dest w.at.op) a
  | inr b ↦ both (released w.at.op 0) (not_released w.at.op (release_part w.at (fails_at is_bad_mark p.code (passes p well).marks w.place w.at w.is_there))) b
]
  where
    both : (b : Bool) → b ≡ false → b ≡ true → ⊥
    both b f t = cc

    release_part : (m : Marked) → is_bad_mark m ≡ false → not (release_fits m.op) ≡ false
    release_part m good = (or_parts (m.forward && not (has_destination m.op) || not (stop_fits m.stop m.op)) (not (release_fits m.op)) good).1

passes_again : (p : Listing) (code : List Marked) (tasks : List Descriptor) → IsWellFormed p → length code ≡ length p.code → length tasks ≡ length p.tasks
    → ((test : Descriptor → Bool) → ((d : Descriptor) (c : ℕ) → test (creating d c) ≡ test d) → list_any test tasks ≡ list_any test p.tasks)
    → has_no_task tasks ≡ has_no_task p.tasks → has_duplicate tasks ≡ has_duplicate p.tasks → has_bad_mask tasks ≡ false → position is_bad_mark code ≡ None
    → build_fault (record p { code = code; tasks = tasks }) ≡ None
passes_again p code tasks well code_sized tasks_sized any none duplicate masks marks =
    let was = passes p well in
    let q : Listing = record p { code = code; tasks = tasks } in
    let many : is_too_many q ≡ false =
    (λ k. nat_lt 4096 (code_sized k) || nat_lt 65536 (length p.bytes) || nat_lt 65536 (length p.fixed) || nat_lt 1024 (tasks_sized k)
    || any (λ (t : Descriptor). nat_lt 16 (length t.targets)) (λ d c. refl) k) ∙ was.within_limits in
    let entries : has_bad_entry q ≡ false =
    any (λ (t : Descriptor). nat_le (length code) t.entry) (λ d c. refl) ∙ ap (λ (n : ℕ). list_any (λ (t : Descriptor). nat_le n t.entry) p.tasks) code_sized ∙ was.entries in
    let starts : starts_at_no_entry q ≡ false = ap not (any (λ (t : Descriptor). nat_eq t.entry p.start) (λ d c. refl)) ∙ was.starts in
    cond-false (is_too_many q) _ _ many
    ∙ cond-false (has_no_task tasks) _ _ (none ∙ was.has_task)
    ∙ cond-false (has_bad_entry q) _ _ entries
    ∙ cond-false (has_duplicate tasks) _ _ (duplicate ∙ was.distinct)
    ∙ cond-false (has_bad_mask tasks) _ _ masks
    ∙ (λ k. mark_fault (marks k) (starts k))

pub marks_pass : (p : Listing) (forwards : List Bool) (creates : List ℕ) → IsWellFormed p → AreForwards p (length p.code) forwards → AreCreates p (length p.tasks) creates
    → build_fault (with_marks p forwards creates) ≡ None
marks_pass p forwards creates well f c =
    passes_again p (with_forwards p.code forwards) (with_creates p.tasks creates) well (length-with_forwards p.code forwards) (length-with_creates p.tasks creates)
    (λ test same. any_kept test p.tasks creates same) (no_task_kept p.tasks creates) (duplicate_kept p.tasks creates)
    (none_of (λ (t : Descriptor). has t.create 0) (with_creates p.tasks creates) (λ t d there. no_zero t d there))
    (nowhere is_bad_mark (with_forwards p.code forwards) (λ i m there. good i m there))
  where
    some : {X : Type 0} (xs : List X) (i : ℕ) → i < length xs → (x : X) × (slice_get xs i ≡ Some x)
    some [] i less = absurd (omega arith)
    some (x ∷ xs) zero less = (x, refl)
    some (x ∷ xs) (suc i) less = some xs i (omega arith)

    no_zero : (t : ℕ) (d : Descriptor) → slice_get (with_creates p.tasks creates) t ≡ Some d → has d.create 0 ≡ false
    no_zero t d there =
        let inside : t < length p.tasks = omega (arith, slice_get_within (with_creates p.tasks creates) t d there, length-with_creates p.tasks creates) in
        let old = some p.tasks t inside in
        let at = creates_at p.tasks creates t old.0 c.sized old.1 in
        let same : creating old.0 (get_or creates t 0) ≡ d = cc in
        false_from_ne_true (has d.create 0) (λ yes.
        zero_never p old.0 well ((c.exact t old.0 0 inside old.1).0 (subst (λ (e : Descriptor). has e.create 0 ≡ true) (sym same) yes)))

    good : (i : ℕ) (m : Marked) → slice_get (with_forwards p.code forwards) i ≡ Some m → is_bad_mark m ≡ false
    good i m there =
        let inside : i < length p.code = omega (arith, slice_get_within (with_forwards p.code forwards) i m there, length-with_forwards p.code forwards) in
        let old = some p.code i inside in
        let at = forwards_at p.code forwards i old.0 f.sized old.1 in
        let same : forwarding old.0 (is_marked forwards i) ≡ m = cc in
        subst (λ (x : Marked). is_bad_mark x ≡ false) same
        (fits_again old.0 (is_marked forwards i) (fails_at is_bad_mark p.code (passes p well).marks i old.0 old.1) (f.fits i old.0 inside old.1))

-- ---- what is proposed
pub proposed : (p : Listing) (forwards : List Bool) (creates : List ℕ) → AreForwards p (length p.code) forwards → AreCreates p (length p.tasks) creates
    → IsProposed p (with_marks p forwards creates)
proposed p forwards creates f c = record {
  code_sized = length-with_forwards p.code forwards;
  code = λ i old new was now.
      let same : forwarding old (is_marked forwards i) ≡ new = cc (forwards_at p.code forwards i old f.sized was, now) in
      let inside = slice_get_within p.code i old was in
      subst (λ (m : Marked). IsRemarked p i old m) same
      (record { op = refl; stop = refl; forward = f.member i old inside was; beside = f.beside i old inside was });
  tasks_sized = length-with_creates p.tasks creates;
  tasks = λ t old new was now.
      let same : creating old (get_or creates t 0) ≡ new = cc (creates_at p.tasks creates t old c.sized was, now) in
      let inside = slice_get_within p.tasks t old was in
      subst (λ (d : Descriptor). IsRedescribed p old d) same
      (record { name = refl; entry = refl; targets = refl; create = λ r. c.exact t old r inside was });
  bytes = refl;
  fixed = refl;
  start = refl;
}

-- ---- the paths stay
record SameWays (p q : Listing) : Type 0 where
  sized : length p.code ≡ length q.code
  there : (i : ℕ) (m : Marked) → slice_get p.code i ≡ Some m → (m' : Marked) × (slice_get q.code i ≡ Some m') × (m'.op ≡ m.op) × (m'.stop ≡ m.stop)

same_edge : (p q : Listing) (leaving : Bool) (i j : ℕ) → SameWays p q → Edge p leaving i j → Edge q leaving i j
same_edge p q leaving i j same e =
    let k = same.there i e.at e.is_there in
    record { at = k.0; is_there = k.1; taken = e.taken; leads = ap (λ o. edge o i e.taken) k.2 ∙ e.leads; kind = ap (λ s. leaves s e.taken) k.3 ∙ e.kind }

same_path : (p q : Listing) (i j : ℕ) → SameWays p q → Path p i j → Path q i j
same_path p q i j same stay = stay
same_path p q i k same (onward {j = j} path e) = onward (same_path p q i j same path) (same_edge p q false j k same e)

same_write : (p q : Listing) (i r : ℕ) → SameWays p q → MayWrite p i r → MayWrite q i r
same_write p q i r same w =
    let k = same.there w.place w.at w.is_there in
    record { place = w.place; comes = same_path p q i w.place same w.comes; at = k.0; is_there = k.1; writes = ap (λ o. dests o r) k.2 ∙ w.writes }

same_reach : (p q : Listing) (i j : ℕ) → SameWays p q → Reaches p i j → Reaches q i j
same_reach p q i j same r = record { path = same_path p q i j same r.path; within = subst (λ (n : ℕ). j < n) same.sized r.within }

least_again : (p q : Listing) (d e : Descriptor) (es : List (ℕ × ℕ)) → SameWays p q → SameWays q p → d.entry ≡ e.entry → LeastList p d es → LeastList q e es
least_again p q d e es to from entry least = record {
  rises = least.rises;
  reached = λ i. (
    λ h. subst (λ (n : ℕ). Reaches q n i) entry (same_reach p q d.entry i to ((least.reached i).0 h)),
    λ r. (least.reached i).1 (same_reach q p d.entry i from (subst (λ (n : ℕ). Reaches q n i) (sym entry) r)),
  );
  exact = λ i mask r at. (λ h. same_write p q i r to ((least.exact i mask r at).0 h), λ w. (least.exact i mask r at).1 (same_write q p i r from w));
}

pub least_stays : (p : Listing) (forwards : List Bool) (creates : List ℕ) (cert : List (List (ℕ × ℕ))) → AreForwards p (length p.code) forwards → AreCreates p (length p.tasks) creates
    → IsLeast p cert → IsLeast (with_marks p forwards creates) cert
least_stays p forwards creates cert f c least = record {
  sized = least.sized ∙ sym (length-with_creates p.tasks creates);
  least = λ t e now.
      let inside : t < length p.tasks = omega (arith, slice_get_within (with_creates p.tasks creates) t e now, length-with_creates p.tasks creates) in
      let old = some p.tasks t inside in
      let same : creating old.0 (get_or creates t 0) ≡ e = cc (creates_at p.tasks creates t old.0 c.sized old.1, now) in
      least_again p (with_marks p forwards creates) old.0 e (list_of cert t) to from (ap (λ (d : Descriptor). d.entry) same) (least.least t old.0 old.1);
}
  where
    some : {X : Type 0} (xs : List X) (i : ℕ) → i < length xs → (x : X) × (slice_get xs i ≡ Some x)
    some [] i less = absurd (omega arith)
    some (x ∷ xs) zero less = (x, refl)
    some (x ∷ xs) (suc i) less = some xs i (omega arith)

    to : SameWays p (with_marks p forwards creates)
    to = record {
      sized = sym (length-with_forwards p.code forwards);
      there = λ i m was. (forwarding m (is_marked forwards i), forwards_at p.code forwards i m f.sized was, refl, refl);
    }

    from : SameWays (with_marks p forwards creates) p
    from = record {
      sized = length-with_forwards p.code forwards;
      there = λ i m now.
          let inside : i < length p.code = omega (arith, slice_get_within (with_forwards p.code forwards) i m now, length-with_forwards p.code forwards) in
          let old = some p.code i inside in
          let same : forwarding old.0 (is_marked forwards i) ≡ m = cc (forwards_at p.code forwards i old.0 f.sized old.1, now) in
          (old.0, old.1, ap (λ (x : Marked). x.op) same, ap (λ (x : Marked). x.stop) same);
    }
