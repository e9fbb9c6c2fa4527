-- What a finding says: a finding among all of them has its task, its instruction with the mask there, and
-- its condition holds.
use Rattle.std.proofs.Common.{◌≡◌, ℕ, ◌⊎◌, inl, inr, List, [], ◌∷◌, Bool, true, false, nat_eq, nat_lt, if◌then◌else◌, Option, Some, None, length, slice_get, refl, sym, ◌∙◌, ap, subst}
use Rattle.std.specs.Prelude.{Contains, filter}
use Rattle.std.specs.List.{range_with_len}
use Rattle.task_descriptor.specs.Listing.{Listing}
use Rattle.task_descriptor.specs.declared.descriptor.Marked.{Marked}
use Rattle.task_descriptor.specs.declared.descriptor.Descriptor.{Descriptor}
use Rattle.mask_certificate.specs.Lists.{mask_at, list_of, Rises}
use Rattle.mask_certificate.proofs.Rising.{mask_there}
use Rattle.mark_checker.specs.declared.finding.Rule.{Rule}
use Rattle.mark_checker.specs.declared.finding.Rule.TheVariants.{EntryWithoutMask, NextWithoutMask, LacksDestination, LacksNext, ExceedsCreate, ForwardedInNext, ReleasedInNext, SentNotCreated, ExitNotListed, FallsOff, IndirectGoesOn, TargetNotEntry}
use Rattle.mark_checker.specs.declared.finding.Finding.{Finding}
use Rattle.mark_checker.specs.Rules.{Conditions, conditions, once, each, found, found_at, rules_at, masked, places, task_rules, rules, all_rules}
use Rattle.finding_paths.proofs.Among.{Among, among, among_get, among_append, among_map, among_filter, among_flat}

-- the condition of a rule
abbrev pub holds : Conditions → Rule → Option ℕ → Bool
holds c EntryWithoutMask None = c.entry_without_mask
holds c NextWithoutMask None = c.next_without_mask
holds c LacksDestination (Some r) = c.lacks_destination r
holds c LacksNext (Some r) = c.lacks_next r
holds c ExceedsCreate (Some r) = c.exceeds_create r
holds c ForwardedInNext (Some r) = c.forwarded_in_next r
holds c ReleasedInNext (Some r) = c.released_in_next r
holds c SentNotCreated (Some r) = c.sent_not_created r
holds c ExitNotListed None = c.exit_not_listed
holds c FallsOff None = c.falls_off
holds c IndirectGoesOn None = c.indirect_goes_on
holds c TargetNotEntry None = c.target_not_entry
holds c _ _ = false

pub record Named (t i : ℕ) (c : Conditions) (f : Finding) : Type 0 where
  pub task : f.task ≡ t
  pub index : f.index ≡ i
  pub holding : holds c f.rule f.reg ≡ true

once_in : (t i : ℕ) (c : Conditions) (rule : Rule) (b : Bool) (f : Finding) → holds c rule None ≡ b → Among (once t i rule b) f → Named t i c f
once_in t i c rule true f e (inl same) = subst (Named t i c) same (record { task = refl; index = refl; holding = e })
once_in t i c rule true f e (inr none) = absurd none
once_in t i c rule false f e none = absurd none

each_in : (t i : ℕ) (c : Conditions) (rule : Rule) (test : ℕ → Bool) (f : Finding) → ((r : ℕ) → holds c rule (Some r) ≡ test r)
    → Among (each t i rule test) f → Named t i c f
unfolding each
each_in t i c rule test f e h =
    let k = among_map (λ r. let x : Finding = record { task = t; index = i; rule = rule; reg = Some r } in x) (filter test (range_with_len 0 34)) f h in
    subst (Named t i c) k.2 (record { task = refl; index = refl; holding = e k.0 ∙ among_filter test (range_with_len 0 34) k.0 k.1 })

either : {A B C : Type 0} → A ⊎ B → (A → C) → (B → C) → C
either (inl a) f g = f a
either (inr b) f g = g b

named : (t i : ℕ) (c : Conditions) (f : Finding) → Among (found t i c) f → Named t i c f
named t i c f h1 =
    either (among_append (once t i EntryWithoutMask c.entry_without_mask) _ f h1) (once_in t i c EntryWithoutMask c.entry_without_mask f refl) (λ h2.
    either (among_append (once t i NextWithoutMask c.next_without_mask) _ f h2) (once_in t i c NextWithoutMask c.next_without_mask f refl) (λ h3.
    either (among_append (each t i LacksDestination c.lacks_destination) _ f h3) (each_in t i c LacksDestination c.lacks_destination f (λ r. refl)) (λ h4.
    either (among_append (each t i LacksNext c.lacks_next) _ f h4) (each_in t i c LacksNext c.lacks_next f (λ r. refl)) (λ h5.
    either (among_append (each t i ExceedsCreate c.exceeds_create) _ f h5) (each_in t i c ExceedsCreate c.exceeds_create f (λ r. refl)) (λ h6.
    either (among_append (each t i ForwardedInNext c.forwarded_in_next) _ f h6) (each_in t i c ForwardedInNext c.forwarded_in_next f (λ r. refl)) (λ h7.
    either (among_append (each t i ReleasedInNext c.released_in_next) _ f h7) (each_in t i c ReleasedInNext c.released_in_next f (λ r. refl)) (λ h8.
    either (among_append (each t i SentNotCreated c.sent_not_created) _ f h8) (each_in t i c SentNotCreated c.sent_not_created f (λ r. refl)) (λ h9.
    either (among_append (once t i ExitNotListed c.exit_not_listed) _ f h9) (once_in t i c ExitNotListed c.exit_not_listed f refl) (λ h10.
    either (among_append (once t i FallsOff c.falls_off) _ f h10) (once_in t i c FallsOff c.falls_off f refl) (λ h11.
    either (among_append (once t i IndirectGoesOn c.indirect_goes_on) (once t i TargetNotEntry c.target_not_entry) f h11) (once_in t i c IndirectGoesOn c.indirect_goes_on f refl)
    (once_in t i c TargetNotEntry c.target_not_entry f refl)))))))))))

-- the mask of a place: the list has it there, or the place is the task's entry without one
abbrev pub Listed : (entry : ℕ) → List (ℕ × ℕ) → (i : ℕ) → Option ℕ → Type 0
Listed entry es i None = i ≡ entry
Listed entry es i (Some mask) = mask_at es i ≡ Some mask

abbrev Stood : (entry : ℕ) → List (ℕ × ℕ) → ℕ × Option ℕ → Type 0
Stood entry es place = ((entry, None) ≡ place) ⊎ ((e : ℕ × ℕ) × Among es e × ((e.0, Some e.1) ≡ place))

masked_stood : (entry : ℕ) (es : List (ℕ × ℕ)) (place : ℕ × Option ℕ) → Among (masked es) place → Stood entry es place
masked_stood entry es place h = let k = among_map (λ (e : ℕ × ℕ). let x : ℕ × Option ℕ = (e.0, Some e.1) in x) es place h in inr k

later : (entry : ℕ) (e : ℕ × ℕ) (es : List (ℕ × ℕ)) (place : ℕ × Option ℕ) → Stood entry es place → Stood entry (e ∷ es) place
later entry e es place (inl h) = inl h
later entry e es place (inr k) = inr (k.0, inr k.1, k.2)

stood_step : (entry : ℕ) (e : ℕ × ℕ) (es : List (ℕ × ℕ)) (place : ℕ × Option ℕ) (less same : Bool) → (Among (places entry es) place → Stood entry es place)
    → Among (if less then (e.0, Some e.1) ∷ places entry es else if same then masked (e ∷ es) else (entry, None) ∷ masked (e ∷ es)) place
    → Stood entry (e ∷ es) place
stood_step entry e es place true same behind (inl h) = inr (e, inl refl, h)
stood_step entry e es place true same behind (inr h) = later entry e es place (behind h)
stood_step entry e es place false true behind h = masked_stood entry (e ∷ es) place h
stood_step entry e es place false false behind (inl h) = inl h
stood_step entry e es place false false behind (inr h) = masked_stood entry (e ∷ es) place h

stood : (entry : ℕ) (es : List (ℕ × ℕ)) (place : ℕ × Option ℕ) → Among (places entry es) place → Stood entry es place
stood entry [] place (inl h) = inl h
stood entry [] place (inr h) = absurd h
stood entry (e ∷ es) place h = stood_step entry e es place (nat_lt e.0 entry) (nat_eq e.0 entry) (λ a. stood entry es place a) h

listed : (entry : ℕ) (es : List (ℕ × ℕ)) (place : ℕ × Option ℕ) → Rises es → Stood entry es place → Listed entry es place.0 place.1
listed entry es place rises (inl h) = subst (λ (x : ℕ × Option ℕ). Listed entry es x.0 x.1) h refl
listed entry es place rises (inr k) =
    let at = among_get es (0, 0) k.0 k.1 in
    subst (λ (x : ℕ × Option ℕ). Listed entry es x.0 x.1) k.2
    (mask_there es rises k.0.0 at.0 at.1 (ap (λ (e : ℕ × ℕ). e.0) at.2) ∙ ap (λ (e : ℕ × ℕ). let o : Option ℕ = Some e.1 in o) at.2)

-- what the finding of a rule says at the instruction at i of the task t
pub record Stands (p : Listing) (es : List (ℕ × ℕ)) (t i : ℕ) (rule : Rule) (reg : Option ℕ) : Type 0 where
  pub task : Descriptor
  pub is_task : slice_get p.tasks t ≡ Some task
  pub at : Marked
  pub is_there : slice_get p.code i ≡ Some at
  pub mask : Option ℕ
  pub listed : Listed task.entry es i mask
  pub holding : holds (conditions p task es i at mask) rule reg ≡ true

record Judged (o : Option Descriptor) (p : Listing) (es : List (ℕ × ℕ)) (t : ℕ) (f : Finding) : Type 0 where
  task : Descriptor
  is_task : o ≡ Some task
  place : ℕ × Option ℕ
  is_place : Among (places task.entry es) place
  found : Among (rules_at p task es t place) f

judged : (o : Option Descriptor) (p : Listing) (es : List (ℕ × ℕ)) (t : ℕ) (f : Finding) → Among (task_rules o p es t) f → Judged o p es t f
judged None p es t f h = absurd h
judged (Some d) p es t f h =
    let k = among_flat (rules_at p d es t) (places d.entry es) f h in
    record { task = d; is_task = refl; place = k.0; is_place = k.1; found = k.2 }

record Met (o : Option Marked) (p : Listing) (d : Descriptor) (es : List (ℕ × ℕ)) (t : ℕ) (place : ℕ × Option ℕ) (f : Finding) : Type 0 where
  at : Marked
  is_there : o ≡ Some at
  named : Named t place.0 (conditions p d es place.0 at place.1) f

met : (o : Option Marked) (p : Listing) (d : Descriptor) (es : List (ℕ × ℕ)) (t : ℕ) (place : ℕ × Option ℕ) (f : Finding)
    → Among (found_at o p d es t place) f → Met o p d es t place f
met None p d es t place f h = absurd h
met (Some m) p d es t place f h = record { at = m; is_there = refl; named = named t place.0 (conditions p d es place.0 m place.1) f h }

pub stands : (p : Listing) (cert : List (List (ℕ × ℕ))) (f : Finding) → ((t : ℕ) (d : Descriptor) → slice_get p.tasks t ≡ Some d → Rises (list_of cert t))
    → Contains (all_rules p cert) f → Stands p (list_of cert f.task) f.task f.index f.rule f.reg
stands p cert f rises h =
    let one = among_flat (rules p cert) (range_with_len 0 (length p.tasks)) f (among (all_rules p cert) f h) in
    let t = one.0 in
    let es = list_of cert t in
    let j = judged (slice_get p.tasks t) p es t f one.2 in
    let k = met (slice_get p.code j.place.0) p j.task es t j.place f j.found in
    let here : Stands p (list_of cert t) t j.place.0 f.rule f.reg = record {
      task = j.task;
      is_task = j.is_task;
      at = k.at;
      is_there = k.is_there;
      mask = j.place.1;
      listed = listed j.task.entry es j.place (rises t j.task j.is_task) (stood j.task.entry es j.place j.is_place);
      holding = k.named.holding;
    } in
    subst (λ (n : ℕ). Stands p (list_of cert f.task) f.task n f.rule f.reg) (sym k.named.index)
    (subst (λ (n : ℕ). Stands p (list_of cert n) n j.place.0 f.rule f.reg) (sym k.named.task) here)
