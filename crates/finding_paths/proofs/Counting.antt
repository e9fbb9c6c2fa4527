-- A place has at most 210 findings and a task at most 4,097 places, so the findings can be counted.
use Rattle.std.proofs.Common.{◌≡◌, ℕ, zero, suc, ◌+◌, ◌-◌, ◌*◌, ◌≤◌, List, [], ◌∷◌, ◌++◌, Bool, true, false, nat_eq, nat_lt, if◌then◌else◌, cond, Option, Some, None, length, take, slice_get, refl, sym, ◌∙◌, ap, subst, arith, length-append}
use Rattle.std.specs.Prelude.{filter}
use Rattle.std.specs.List.{flat_map, range_with_len}
use Rattle.std.proofs.Math.Nat.{suc-mul}
use Rattle.std.proofs.lemmas.List.{length-map}
use Rattle.std.proofs.lemmas.List.FromFn.{length-range_with_len}
use Rattle.task_descriptor.specs.Listing.{Listing}
use Rattle.task_descriptor.specs.declared.descriptor.Marked.{Marked}
use Rattle.task_descriptor.specs.declared.descriptor.Descriptor.{Descriptor}
use Rattle.mask_certificate.specs.Lists.{list_of, Rises}
use Rattle.mask_certificate.proofs.Rising.{position_small, index_small}
use Rattle.mark_checker.specs.declared.finding.Rule.{Rule}
use Rattle.mark_checker.specs.declared.finding.Rule.TheVariants.{EntryWithoutMask, NextWithoutMask, LacksDestination, LacksNext, ExceedsCreate, ForwardedInNext, ReleasedInNext, SentNotCreated, ExitNotListed, FallsOff, IndirectGoesOn, TargetNotEntry}
use Rattle.mark_checker.specs.declared.finding.Finding.{Finding}
use Rattle.mark_checker.specs.Rules.{Conditions, conditions, once, each, found, found_at, rules_at, masked, places, task_rules, rules}
use Rattle.annotator.specs.Least.{IsLeast}

-- the first of a list that goes on
pub take_room : {X : Type 0} (most : ℕ) (xs ys : List X) → take most (xs ++ ys) ≡ take most xs ++ take (most - length (take most xs)) ys
take_room zero xs ys = refl
take_room (suc n) [] ys = let e : suc n ≡ suc n - 0 = omega arith in ap (λ m. take m ys) e
take_room (suc n) (x ∷ xs) ys =
    let e : n - length (take n xs) ≡ suc n - suc (length (take n xs)) = omega arith in
    ap (λ rest. x ∷ rest) (take_room n xs ys) ∙ ap (λ m. x ∷ (take n xs ++ take m ys)) e

pub take_less : {X : Type 0} (most : ℕ) (xs : List X) → length (take most xs) ≤ length xs
take_less zero xs = omega arith
take_less (suc n) [] = omega arith
take_less (suc n) (x ∷ xs) = let h = take_less n xs in omega arith

-- the list with the first of what is after it
pub list_more : {X : Type 0} (most : ℕ) (xs ys all list new : List X) → list ≡ take most xs → xs ++ ys ≡ all → new ≡ list ++ take (most - length list) ys → new ≡ take most all
list_more most xs ys all list new first both appended =
    appended ∙ ap (λ zs. zs ++ take (most - length zs) ys) first ∙ sym (take_room most xs ys) ∙ ap (take most) both

pub count_more : {X : Type 0} (xs ys all : List X) (count : ℕ) → count ≡ length xs → xs ++ ys ≡ all → count + length ys ≡ length all
count_more xs ys all count counted both =
    let e = length-append xs ys in
    let k : length (xs ++ ys) ≡ length all = ap length both in
    omega (arith, e, k, counted)

once_few : (t i : ℕ) (rule : Rule) (b : Bool) → length (once t i rule b) ≤ 1
once_few t i rule true = omega arith
once_few t i rule false = omega arith

passed_few : (b : Bool) (x : ℕ) (xs : List ℕ) (n : ℕ) → length xs ≤ n → length (cond b (x ∷ xs) xs) ≤ suc n
passed_few true x xs n h = omega arith
passed_few false x xs n h = omega arith

filter_few : (test : ℕ → Bool) (xs : List ℕ) → length (filter test xs) ≤ length xs
filter_few test [] = omega arith
filter_few test (x ∷ xs) = passed_few (test x) x (filter test xs) (length xs) (filter_few test xs)

each_few : (t i : ℕ) (rule : Rule) (test : ℕ → Bool) → length (each t i rule test) ≤ 34
unfolding each
each_few t i rule test =
    let few = filter_few test (range_with_len 0 34) in
    let all = length-range_with_len 0 34 in
    let same = length-map (filter test (range_with_len 0 34)) (λ r. let x : Finding = record { task = t; index = i; rule = rule; reg = Some r } in x) in
    omega (arith, few, all, same)

more_few : (xs ys : List Finding) (m n : ℕ) → length xs ≤ m → length ys ≤ n → length (xs ++ ys) ≤ m + n
more_few xs ys m n h k = let e = length-append xs ys in omega (arith, e, h, k)

found_few : (t i : ℕ) (c : Conditions) → length (found t i c) ≤ 210
found_few t i c =
    more_few (once t i EntryWithoutMask c.entry_without_mask) _ 1 209 (once_few t i EntryWithoutMask c.entry_without_mask)
    (more_few (once t i NextWithoutMask c.next_without_mask) _ 1 208 (once_few t i NextWithoutMask c.next_without_mask)
    (more_few (each t i LacksDestination c.lacks_destination) _ 34 174 (each_few t i LacksDestination c.lacks_destination)
    (more_few (each t i LacksNext c.lacks_next) _ 34 140 (each_few t i LacksNext c.lacks_next)
    (more_few (each t i ExceedsCreate c.exceeds_create) _ 34 106 (each_few t i ExceedsCreate c.exceeds_create)
    (more_few (each t i ForwardedInNext c.forwarded_in_next) _ 34 72 (each_few t i ForwardedInNext c.forwarded_in_next)
    (more_few (each t i ReleasedInNext c.released_in_next) _ 34 38 (each_few t i ReleasedInNext c.released_in_next)
    (more_few (each t i SentNotCreated c.sent_not_created) _ 34 4 (each_few t i SentNotCreated c.sent_not_created)
    (more_few (once t i ExitNotListed c.exit_not_listed) _ 1 3 (once_few t i ExitNotListed c.exit_not_listed)
    (more_few (once t i FallsOff c.falls_off) _ 1 2 (once_few t i FallsOff c.falls_off)
    (more_few (once t i IndirectGoesOn c.indirect_goes_on) (once t i TargetNotEntry c.target_not_entry) 1 1 (once_few t i IndirectGoesOn c.indirect_goes_on)
    (once_few t i TargetNotEntry c.target_not_entry)))))))))))

found_at_few : (o : Option Marked) (p : Listing) (d : Descriptor) (es : List (ℕ × ℕ)) (t : ℕ) (place : ℕ × Option ℕ) → length (found_at o p d es t place) ≤ 210
found_at_few None p d es t place = omega arith
found_at_few (Some m) p d es t place = found_few t place.0 (conditions p d es place.0 m place.1)

flat_step : (xs ys : List Finding) (m n sum : ℕ) → length xs ≤ m → length ys ≤ n → sum ≡ n + m → length (xs ++ ys) ≤ sum
flat_step xs ys m n sum h k same = let e = length-append xs ys in omega (arith, e, h, k, same)

flat_few : {X : Type 0} (f : X → List Finding) (k : ℕ) → ((x : X) → length (f x) ≤ k) → (xs : List X) → length (flat_map f xs) ≤ length xs * k
flat_few f k few [] = omega arith
flat_few f k few (x ∷ xs) = flat_step (f x) (flat_map f xs) k (length xs * k) (suc (length xs) * k) (few x) (flat_few f k few xs) (suc-mul (length xs) k)

masked_few : (es : List (ℕ × ℕ)) → length (masked es) ≡ length es
masked_few es = length-map es (λ (e : ℕ × ℕ). let x : ℕ × Option ℕ = (e.0, Some e.1) in x)

places_step : (entry : ℕ) (e : ℕ × ℕ) (es : List (ℕ × ℕ)) (less same : Bool) → length (places entry es) ≤ suc (length es)
    → length (if less then (e.0, Some e.1) ∷ places entry es else if same then masked (e ∷ es) else (entry, None) ∷ masked (e ∷ es)) ≤ suc (suc (length es))
places_step entry e es true same h = omega arith
places_step entry e es false true h = let k = masked_few es in omega arith
places_step entry e es false false h = let k = masked_few es in omega arith

places_few : (entry : ℕ) (es : List (ℕ × ℕ)) → length (places entry es) ≤ suc (length es)
places_few entry [] = omega arith
places_few entry (e ∷ es) = places_step entry e es (nat_lt e.0 entry) (nat_eq e.0 entry) (places_few entry es)

-- the last index is below 4,096, and this many indices stand before it
list_few : (es : List (ℕ × ℕ)) → Rises es → length es ≤ 4096
list_few [] rises = omega arith
list_few (e ∷ es) rises =
    let before = position_small (e ∷ es) rises (length es) (omega arith) in
    let inside = index_small (e ∷ es) rises (length es) (omega arith) in
    omega (arith, before, inside)

task_few : (o : Option Descriptor) (p : Listing) (es : List (ℕ × ℕ)) (t : ℕ) → ((d : Descriptor) → o ≡ Some d → Rises es) → length (task_rules o p es t) ≤ 860370
task_few None p es t rises = omega arith
task_few (Some d) p es t rises =
    let all = flat_few (rules_at p d es t) 210 (λ place. found_at_few (slice_get p.code place.0) p d es t place) (places d.entry es) in
    let few = places_few d.entry es in
    let long = list_few es (rises d refl) in
    omega (arith, all, few, long)

pub rules_few : (p : Listing) (cert : List (List (ℕ × ℕ))) → IsLeast p cert → (t : ℕ) → length (rules p cert t) ≤ 860370
rules_few p cert least t = task_few (slice_get p.tasks t) p (list_of cert t) t (λ d is. (least.least t d is).rises)

-- the findings of the first tasks
pub all_few : (p : Listing) (cert : List (List (ℕ × ℕ))) → IsLeast p cert → (n : ℕ) → length (flat_map (rules p cert) (range_with_len 0 n)) ≤ n * 860370
all_few p cert least n =
    subst (λ (k : ℕ). length (flat_map (rules p cert) (range_with_len 0 n)) ≤ k * 860370) (length-range_with_len 0 n)
    (flat_few (rules p cert) 860370 (rules_few p cert least) (range_with_len 0 n))
