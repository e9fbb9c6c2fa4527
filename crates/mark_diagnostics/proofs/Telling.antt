-- What is reported is found in the program, and nothing is reported exactly where nothing is found.
use Rattle.std.proofs.Common.{◌≡◌, ℕ, zero, suc, ◌+◌, ◌-◌, ◌≤◌, ◌<◌, Bool, true, false, cond, if◌then◌else◌, List, [], ◌∷◌, ◌++◌, Option, Some, None, IfSome, length, take, get_or, filter, refl, sym, ◌∙◌, ap, subst, arith, length-append}
use Rattle.std.specs.Prelude.{Contains, codes, not, slice_get}
use Rattle.std.specs.List.{find, flat_map, range_with_len, All, AllZip}
use Rattle.std.specs.Option.{option_to_list}
use Rattle.std.proofs.lemmas.Grind.{common_steps}
use Rattle.std.proofs.lemmas.Option.{slice_get_within}
use Rattle.std.proofs.lemmas.List.Elements.{All-nil, All-cons, All-head, All-tail, All-append, All-weaker, All-contains_itself, All-take, All-filter}
use Rattle.task_descriptor.specs.Listing.{Listing, registers}
use Rattle.task_descriptor.specs.declared.descriptor.Descriptor.{Descriptor}
use Rattle.task_graph.specs.Soundness.{Sound}
use Rattle.mask_certificate.specs.Lists.{list_of}
use Rattle.mark_checker.specs.declared.finding.Finding.{Finding}
use Rattle.mark_checker.specs.Rules.{task_rules, rules, all_rules}
use Rattle.annotator.specs.Least.{IsLeast}
use Rattle.finding_paths.specs.Shown.{IsFinding}
use Rattle.diagnostics.specs.More.{more_note}
use Rattle.diagnostics.specs.declared.diagnostic.Source.TheVariants.{Program}
use Rattle.diagnostics.specs.declared.diagnostic.Diagnostic.{Diagnostic}
use Rattle.mark_subjects.specs.Subjects.{Judged, IsJudged}
use Rattle.mark_diagnostics.specs.Told.{is_of_mask, told, told_of, all_told, most_shown, leader, leaders, about}
use Rattle.mark_diagnostics.specs.Errors.{Says, AreMarkErrors}

left : {X : Type 0} (P : X → Type 0) (xs ys : List X) → All P (xs ++ ys) → All P xs
left P [] ys h = All-nil P
left P (x ∷ xs) ys h = All-cons P x xs (All-head P x (xs ++ ys) h) (left P xs ys (All-tail P x (xs ++ ys) h))

right : {X : Type 0} (P : X → Type 0) (xs ys : List X) → All P (xs ++ ys) → All P ys
right P [] ys h = h
right P (x ∷ xs) ys h = right P xs ys (All-tail P x (xs ++ ys) h)

all_flat : {X A : Type 0} (P : A → Type 0) (f : X → List A) (xs : List X) → ((x : X) → All P (f x)) → All P (flat_map f xs)
all_flat P f [] h = All-nil P
all_flat P f (x ∷ xs) h = All-append P (f x) (flat_map f xs) (h x) (all_flat P f xs h)

-- of one of the numbers
all_at : {A : Type 0} (P : A → Type 0) (f : ℕ → List A) (a n k : ℕ) → All P (flat_map f (range_with_len a n)) → k < n → All P (f (a + k))
all_at P f a zero k h l = absurd (omega (arith, l))
all_at P f a (suc n) zero h l = let e : a ≡ a + 0 = omega arith in subst (λ (m : ℕ). All P (f m)) e (left P (f a) (flat_map f (range_with_len (a + 1) n)) h)
all_at P f a (suc n) (suc k) h l =
    let e : (a + 1) + k ≡ a + suc k = omega arith in
    subst (λ (m : ℕ). All P (f m)) e (all_at P f (a + 1) n k (right P (f a) (flat_map f (range_with_len (a + 1) n)) h) (omega (arith, l)))

found_step : {X : Type 0} (P : X → Type 0) (b : Bool) (x : X) (rest : Option X) → P x → IfSome rest P → IfSome (cond b (Some x) rest) P
found_step P true x rest h k = h
found_step P false x rest h k = k

found : {X : Type 0} (P : X → Type 0) (test : X → Bool) (xs : List X) → All P xs → IfSome (find test xs) P
found P test [] h = tt
found P test (x ∷ xs) h = found_step P (test x) x (find test xs) (All-head P x xs h) (found P test xs (All-tail P x xs h))

listed : {X : Type 0} (P : X → Type 0) (o : Option X) → IfSome o P → All P (option_to_list o)
listed P None h = All-nil P
listed P (Some x) h = All-cons P x [] h (All-nil P)

leaders_all : (P : Finding → Type 0) (fs : List Finding) → All P fs → All P (leaders fs)
unfolding leaders
leaders_all P fs h = all_flat P (λ r. option_to_list (leader fs r)) registers (λ r. listed P (leader fs r) (found P _ fs h))

told_all : (P : Finding → Type 0) (fs : List Finding) → All P fs → All P (told fs)
told_all P fs h = All-append P _ _ (listed P _ (found P _ fs h)) (All-filter _ P fs h)

tasks_all : (P : Finding → Type 0) (p : Listing) (cert : List (List (ℕ × ℕ))) (ts : List ℕ) → All P (flat_map (rules p cert) ts)
    → All P (flat_map (told_of p cert) ts)
tasks_all P p cert [] h = All-nil _
tasks_all P p cert (t ∷ ts) h =
    All-append P (told_of p cert t) (flat_map (told_of p cert) ts)
    (told_all P (rules p cert t) (left P (rules p cert t) (flat_map (rules p cert) ts) h))
    (tasks_all P p cert ts (right P (rules p cert t) (flat_map (rules p cert) ts) h))

all_found : (p : Listing) (cert : List (List (ℕ × ℕ))) → IsLeast p cert → All (IsFinding p) (all_rules p cert)
all_found p cert least =
    All-weaker (Contains (all_rules p cert)) (IsFinding p) (λ f h. record { cert = cert; least = least; found = h }) (all_rules p cert)
    (All-contains_itself (all_rules p cert))

-- what is reported is what the checker finds with a least certificate
pub found_told : (p : Listing) (cert : List (List (ℕ × ℕ))) (n : ℕ) → IsLeast p cert → All (IsFinding p) (take n (all_told p cert))
found_told p cert n least =
    All-take (IsFinding p) n (all_told p cert) (tasks_all (IsFinding p) p cert (range_with_len 0 (length p.tasks)) (all_found p cert least))

rules_by : (p : Listing) (cert : List (List (ℕ × ℕ))) (t : ℕ) (o : Option Descriptor) → IsLeast p cert → slice_get p.tasks t ≡ o → All (IsFinding p) (rules p cert t)
rules_by p cert t None least is =
    subst (λ (o : Option Descriptor). All (IsFinding p) (task_rules o p (list_of cert t) t)) (sym is) (All-nil (IsFinding p))
rules_by p cert t (Some d) least is =
    let e : 0 + t ≡ t = omega arith in
    subst (λ (k : ℕ). All (IsFinding p) (rules p cert k)) e
    (all_at (IsFinding p) (rules p cert) 0 (length p.tasks) t (all_found p cert least) (slice_get_within p.tasks t d is))

about_by : (s : Judged) (f : Finding) (b : Bool) → IsLeast s.program s.least → IsFinding s.program f
    → All (IsFinding s.program) (if b then leaders (rules s.program s.least f.task) else f ∷ [])
about_by s f true least h =
    leaders_all (IsFinding s.program) (rules s.program s.least f.task) (rules_by s.program s.least f.task (slice_get s.program.tasks f.task) least refl)
about_by s f false least h = All-cons (IsFinding s.program) f [] h (All-nil (IsFinding s.program))

-- what is reported with it, too
pub found_about : (s : Judged) (f : Finding) (n : ℕ) → IsLeast s.program s.least → IsFinding s.program f → All (IsFinding s.program) (take n (about s f))
found_about s f n least h = All-take (IsFinding s.program) n (about s f) (about_by s f (is_of_mask f.rule) least h)

-- Nothing reported, nothing found.

no_head : {X : Type 0} (x : X) (xs : List X) → x ∷ xs ≡ [] → ⊥
no_head x xs e = cc

none_left : {X : Type 0} (xs ys : List X) → xs ++ ys ≡ [] → xs ≡ []
none_left [] ys e = refl
none_left (x ∷ xs) ys e = absurd (no_head x (xs ++ ys) e)

none_right : {X : Type 0} (xs ys : List X) → xs ++ ys ≡ [] → ys ≡ []
none_right [] ys e = e
none_right (x ∷ xs) ys e = absurd (no_head x (xs ++ ys) e)

both_none : {X : Type 0} (xs ys : List X) → xs ≡ [] → ys ≡ [] → xs ++ ys ≡ []
both_none {X} xs ys a b = ap (λ (zs : List X). zs ++ ys) a ∙ b

some_mask : (b : Bool) (f : Finding) (rest : Option Finding) → b ≡ true → option_to_list (cond b (Some f) rest) ≡ [] → ⊥
some_mask true f rest is e = no_head f [] e
some_mask false f rest is e = cc

some_other : (b : Bool) (f : Finding) (rest : List Finding) → b ≡ false → cond (not b) (f ∷ rest) rest ≡ [] → ⊥
some_other false f rest is e = no_head f rest e
some_other true f rest is e = cc

says_something : (b : Bool) (f : Finding) (fs : List Finding) → is_of_mask f.rule ≡ b → told (f ∷ fs) ≡ [] → ⊥
says_something true f fs is e = some_mask (is_of_mask f.rule) f (find (λ g. is_of_mask g.rule) fs) is (none_left _ _ e)
says_something false f fs is e = some_other (is_of_mask f.rule) f (filter (λ g. not (is_of_mask g.rule)) fs) is (none_right _ _ e)

no_finding : (fs : List Finding) → told fs ≡ [] → fs ≡ []
no_finding [] e = refl
no_finding (f ∷ fs) e = absurd (says_something (is_of_mask f.rule) f fs refl e)

no_findings : (p : Listing) (cert : List (List (ℕ × ℕ))) (ts : List ℕ) → flat_map (told_of p cert) ts ≡ [] → flat_map (rules p cert) ts ≡ []
no_findings p cert [] e = refl
no_findings p cert (t ∷ ts) e =
    both_none (rules p cert t) (flat_map (rules p cert) ts) (no_finding (rules p cert t) (none_left (told_of p cert t) (flat_map (told_of p cert) ts) e))
    (no_findings p cert ts (none_right (told_of p cert t) (flat_map (told_of p cert) ts) e))

none_told : (p : Listing) (cert : List (List (ℕ × ℕ))) (ts : List ℕ) → flat_map (rules p cert) ts ≡ [] → flat_map (told_of p cert) ts ≡ []
none_told p cert [] e = refl
none_told p cert (t ∷ ts) e =
    both_none (told_of p cert t) (flat_map (told_of p cert) ts) (ap told (none_left (rules p cert t) (flat_map (rules p cert) ts) e))
    (none_told p cert ts (none_right (rules p cert t) (flat_map (rules p cert) ts) e))

none_more : (n : ℕ) (one many : List ℕ) → more_note Program n one many ≡ [] → n ≡ 0
none_more zero one many e = refl
none_more (suc n) one many e = absurd (no_head _ [] e)

none_said : {A B : Type 0} (R : A → B → Type 0) (xs : List A) (ys : List B) → AllZip R xs ys → ys ≡ [] → xs ≡ []
none_said R [] ys h e = refl
none_said R (x ∷ xs) [] h e = absurd h
none_said R (x ∷ xs) (y ∷ ys) h e = absurd (no_head y ys e)

none_taken : {X : Type 0} (n : ℕ) (xs : List X) → take n xs ≡ [] → length xs - n ≡ 0 → xs ≡ []
none_taken n [] e h = refl
none_taken zero (x ∷ xs) e h = absurd (omega (arith, h))
none_taken (suc n) (x ∷ xs) e h = absurd (no_head x (take n xs) e)

more_zip : {A B : Type 0} (R : A → B → Type 0) (xs : List A) (ys : List B) (x : A) (y : B) → AllZip R xs ys → R x y → AllZip R (xs ++ x ∷ []) (ys ++ y ∷ [])
more_zip R [] [] x y h k = (k, tt)
more_zip R [] (z ∷ ys) x y h k = absurd h
more_zip R (w ∷ xs) [] x y h k = absurd h
more_zip R (w ∷ xs) (z ∷ ys) x y h k = (h.0, more_zip R xs ys x y h.1 k)

take_more : {X : Type 0} (xs : List X) (i : ℕ) (x : X) → i < length xs → x ≡ get_or xs i x → take (i + 1) xs ≡ take i xs ++ x ∷ []
take_more xs i x below is = grind (arith, common_steps)

-- what is said of one more
pub zip_more : {A B : Type 0} (R : A → B → Type 0) (xs : List A) (ys : List B) (i : ℕ) (x : A) (y : B) → i < length xs → x ≡ get_or xs i x → AllZip R (take i xs) ys → R x y
    → AllZip R (take (i + 1) xs) (ys ++ y ∷ [])
zip_more {A} R xs ys i x y below is h k = subst (λ (zs : List A). AllZip R zs (ys ++ y ∷ [])) (sym (take_more xs i x below is)) (more_zip R (take i xs) ys x y h k)

-- the marks are accepted, and there is no diagnostic
pub nothing_wrong : (text : List ℕ) (list : List Diagnostic) (s : Judged) → IsJudged text s → IsLeast s.program s.least
    → Sound s.program → all_rules s.program s.least ≡ [] → list ≡ [] → AreMarkErrors text list
nothing_wrong text list s judged least sound nothing none =
    let all : all_told s.program s.least ≡ [] = none_told s.program s.least (range_with_len 0 (length s.program.tasks)) nothing in
    let first : List Diagnostic = [] in
    record {
      judged = s;
      of_text = judged;
      least = least;
      first = first;
      said = subst (λ (fs : List Finding). AllZip (Says s) (take most_shown fs) first) (sym all) tt;
      is = none ∙ sym (ap (λ (fs : List Finding). first ++ more_note Program (length fs - most_shown) (codes "error") (codes "errors")) all);
      silent = (λ e. sound, λ h. none);
    }

-- what is known of a program and its certificate is known of what is judged
pub of_judged : (P : Listing → List (List (ℕ × ℕ)) → Type 0) (s : Judged) (p : Listing) (cert : List (List (ℕ × ℕ))) → s.program ≡ p → s.least ≡ cert → P p cert → P s.program s.least
of_judged P s p cert a b h = subst (λ (q : Listing). P q s.least) (sym a) (subst (λ (d : List (List (ℕ × ℕ))). P p d) (sym b) h)

-- the marks are refused, and there is a diagnostic
pub something_wrong : (text : List ℕ) (list first : List Diagnostic) (s : Judged) → IsJudged text s → IsLeast s.program s.least
    → (Sound s.program → all_rules s.program s.least ≡ []) → (all_rules s.program s.least ≡ [] → ⊥)
    → AllZip (Says s) (take most_shown (all_told s.program s.least)) first
    → list ≡ first ++ more_note Program (length (all_told s.program s.least) - most_shown) (codes "error") (codes "errors") → AreMarkErrors text list
something_wrong text list first s judged least sound refused said is =
    let told = all_told s.program s.least in
    let rest = more_note Program (length told - most_shown) (codes "error") (codes "errors") in
    record {
      judged = s;
      of_text = judged;
      least = least;
      first = first;
      said = said;
      is = is;
      silent = (
        λ e. absurd (refused (no_findings s.program s.least (range_with_len 0 (length s.program.tasks))
            (none_taken most_shown told (none_said (Says s) (take most_shown told) first said (none_left first rest (sym is ∙ e)))
            (none_more (length told - most_shown) (codes "error") (codes "errors") (none_right first rest (sym is ∙ e)))))),
        λ h. absurd (refused (sound h)),
      );
    }

-- How much is reported.

one_few : (o : Option Finding) → length (option_to_list o) ≤ 1
one_few None = omega arith
one_few (Some f) = omega arith

passed_few : (b : Bool) (f : Finding) (fs : List Finding) (n : ℕ) → length fs ≤ n → length (cond b (f ∷ fs) fs) ≤ suc n
passed_few true f fs n h = omega arith
passed_few false f fs n h = omega arith

filter_few : (test : Finding → Bool) (fs : List Finding) → length (filter test fs) ≤ length fs
filter_few test [] = omega arith
filter_few test (f ∷ fs) = passed_few (test f) f (filter test fs) (length fs) (filter_few test fs)

pub told_few : (fs : List Finding) → length (told fs) ≤ suc (length fs)
told_few fs =
    let one = one_few (find (λ f. is_of_mask f.rule) fs) in
    let few = filter_few (λ f. not (is_of_mask f.rule)) fs in
    let both = length-append (option_to_list (find (λ f. is_of_mask f.rule) fs)) (filter (λ f. not (is_of_mask f.rule)) fs) in
    omega (arith, one, few, both)
