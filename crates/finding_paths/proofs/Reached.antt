-- The lists of the least certificate tell which tasks reach an instruction.
use Rattle.std.proofs.Common.{◌≡◌, ℕ, ◌+◌, ◌<◌, ◌↔◌, Bool, true, false, not, ◌&&◌, Option, Some, List, length, get_or, slice_get, refl, sym, ◌∙◌, ap, subst, arith, inl, inr}
use Rattle.std.specs.Prelude.{is_some}
use Rattle.std.proofs.lemmas.Bool.{cases_lt}
use Rattle.std.proofs.lemmas.Option.{slice_get_read, slice_get_within}
use Rattle.mips_instructions.specs.Words.{has}
use Rattle.task_descriptor.specs.Listing.{Listing}
use Rattle.task_descriptor.specs.declared.descriptor.Descriptor.{Descriptor}
use Rattle.mask_certificate.specs.Lists.{mask_at, list_of}
use Rattle.annotator.specs.Least.{LeastList, IsLeast}
use Rattle.annotator.specs.Proposed.{Produces}
use Rattle.annotator.specs.Marking.{indices_of, ProducedAt}
use Rattle.annotator.proofs.MarkLemmas.{listed_reached}
use Rattle.finding_paths.specs.Costly.{IsAwaited, IsNeverProduced, has_target}
use Rattle.finding_paths.specs.Steps.{AllHave, TaskIsAwaited, TaskLacks, SomeTaskLacks}

-- a test that fails refuses what does not hold
pub refused : {X : Type 0} → (X → ⊥) → (false ≡ true) ↔ X
refused fails = (λ h. absurd (cc), λ x. absurd (fails x))

pub certain : {X : Type 0} → X → (true ≡ true) ↔ X
certain x = (λ h. x, λ y. refl)

pub both : (b : Bool) → b ≡ true → b ≡ false → ⊥
both b t f = cc

-- the task that is read
pub task_there : (p : Listing) (tasks : List Descriptor) (t : ℕ) (d : Descriptor) → tasks ≡ p.tasks → t < length p.tasks → d ≡ get_or tasks t d → slice_get p.tasks t ≡ Some d
task_there p tasks t d same within is =
    subst (λ (xs : List Descriptor). slice_get xs t ≡ Some d) same
    (slice_get_read tasks (length tasks) t d refl (subst (λ (xs : List Descriptor). t < length xs) (sym same) within) is)

-- what one task lacks
pub lacks_exact : (p : Listing) (cert : List (List (ℕ × ℕ))) (t index set : ℕ) (d : Descriptor) (subset : Bool) → IsLeast p cert → slice_get p.tasks t ≡ Some d
    → is_some (mask_at (list_of cert t) index) ≡ true → ((subset ≡ true) ↔ ((r : ℕ) → has set r ≡ true → has d.create r ≡ true))
    → (not subset ≡ true) ↔ TaskLacks p t index set
lacks_exact p cert t index set d true least there masked within =
    refused (λ (l : TaskLacks p t index set). let same : l.descriptor ≡ d = cc (l.is_there, there) in
    l.lacks (subst (λ (x : Descriptor). (r : ℕ) → has set r ≡ true → has x.create r ≡ true) (sym same) (within.0 refl)))
lacks_exact p cert t index set d false least there masked within =
    certain (record { descriptor = d; is_there = there; reached = ((least.least t d there).reached index).0 masked; lacks = λ all. no (within.1 all) })
  where
    no : false ≡ true → ⊥
    no h = cc

-- of what all create masks before have, what the next has, too
both_kept : (set lacked created new : Bool) → lacked ≡ (set && not created) → new ≡ (set && not lacked) → new ≡ true → (set ≡ true) × (created ≡ true)
both_kept true lacked true new a b h = (refl, refl)
both_kept true lacked false new a b h = let fails : new ≡ false = subst (λ (k : Bool). new ≡ not k) a b in absurd (cc)
both_kept false lacked created new a b h = absurd (cc)

pub all_have_more : (tasks : List Descriptor) (n set lacked new : ℕ) (d : Descriptor) → slice_get tasks n ≡ Some d
    → ((r : ℕ) → has lacked r ≡ (has set r && not (has d.create r))) → ((r : ℕ) → has new r ≡ (has set r && not (has lacked r)))
    → AllHave tasks n set → AllHave tasks (n + 1) new
all_have_more tasks n set lacked new d there one two before t r e less is h =
    let k = both_kept (has set r) (has lacked r) (has d.create r) (has new r) (one r) (two r) h in
    elim (cases_lt t n) [
      | inl earlier ↦ before t r e earlier is k.0
      | inr last ↦
          let same : t ≡ n = omega (arith, less, last) in
          let it : e ≡ d = cc (is, there, same) in
          subst (λ (x : Descriptor). has x.create r ≡ true) (sym it) k.1
    ]

pub none_lacks : (p : Listing) (n index set : ℕ) → n ≡ length p.tasks → ((t : ℕ) → t < n → TaskLacks p t index set → ⊥) → SomeTaskLacks p index set → ⊥
none_lacks p n index set end none some =
    let l = some.lacking in
    let less : some.task < length p.tasks = slice_get_within p.tasks some.task l.descriptor l.is_there in
    none some.task (omega arith) l

-- what a task produces stands in its list
pub produces_exact : (p : Listing) (cert : List (List (ℕ × ℕ))) (t set : ℕ) (d : Descriptor) (list : List (ℕ × ℕ)) (r : ℕ) → IsLeast p cert → slice_get p.tasks t ≡ Some d → list ≡ list_of cert t
    → ((has set r ≡ true) ↔ ProducedAt p.code (indices_of list) r) → (has set r ≡ true) ↔ Produces p d r
produces_exact p cert t set d list r least there is exact = (
  λ h. let w = exact.0 h in
      record { place = w.place; reached = (listed_reached p d list least_list w.place).0 w.listed; at = w.at; is_there = w.is_there; produced = w.produced },
  λ w. exact.1 (record { place = w.place; listed = (listed_reached p d list least_list w.place).1 w.reached; at = w.at; is_there = w.is_there; produced = w.produced }),
)
  where
    least_list : LeastList p d list
    least_list = subst (λ (xs : List (ℕ × ℕ)). LeastList p d xs) (sym is) (least.least t d there)

-- a register of the create mask that is not among those
pub never_exact : (p : Listing) (task r create set spare : ℕ) (d : Descriptor) → slice_get p.tasks task ≡ Some d → create ≡ d.create → has_target d.targets ≡ true
    → has spare r ≡ (has create r && not (has set r)) → ((has set r ≡ true) ↔ Produces p d r) → (has spare r ≡ true) ↔ IsNeverProduced p task r
never_exact p task r create set spare d there same followed members exact = (
  λ yes. let h = parts (has create r) (has set r) (sym members ∙ yes) in
      record {
        descriptor = d;
        is_there = there;
        followed = followed;
        created = subst (λ (k : ℕ). has k r ≡ true) same h.0;
        never = λ w. both (has set r) (exact.1 w) h.1;
      },
  λ n. let same_task : n.descriptor ≡ d = cc (n.is_there, there) in
      let created : has create r ≡ true = subst (λ (k : ℕ). has k r ≡ true) (sym same) (subst (λ (x : Descriptor). has x.create r ≡ true) same_task n.created) in
      members ∙ joined (has create r) (has set r) created (λ h. n.never (subst (λ (x : Descriptor). Produces p x r) (sym same_task) (exact.0 h))),
)
  where
    parts : (a b : Bool) → (a && not b) ≡ true → (a ≡ true) × (b ≡ false)
    parts true false h = (refl, refl)
    parts true true h = absurd (cc)
    parts false b h = absurd (cc)

    joined : (a b : Bool) → a ≡ true → (b ≡ true → ⊥) → (a && not b) ≡ true
    joined true false h fails = refl
    joined true true h fails = absurd (fails refl)
    joined false b h fails = absurd (cc)

-- nothing is told of a task that is not followed
pub never_followed : (p : Listing) (task r spare : ℕ) (d : Descriptor) → slice_get p.tasks task ≡ Some d → has_target d.targets ≡ false
    → has spare r ≡ false → (has spare r ≡ true) ↔ IsNeverProduced p task r
never_followed p task r spare d there alone nothing = (
  λ yes. absurd (both (has spare r) yes nothing),
  λ n. let same : n.descriptor ≡ d = cc (n.is_there, there) in
      absurd (both (has_target d.targets) (subst (λ (x : Descriptor). has_target x.targets ≡ true) same n.followed) alone),
)

-- whether one task is awaited
pub awaited_exact : (p : Listing) (cert : List (List (ℕ × ℕ))) (t index : ℕ) (d : Descriptor) (b : Bool) → IsLeast p cert → slice_get p.tasks t ≡ Some d
    → is_some (mask_at (list_of cert t) index) ≡ true → b ≡ has_target d.targets → (b ≡ true) ↔ TaskIsAwaited p t index
awaited_exact p cert t index d b least there masked is = (
  λ yes. record { descriptor = d; is_there = there; reached = ((least.least t d there).reached index).0 masked; followed = sym is ∙ yes },
  λ a. let same : a.descriptor ≡ d = cc (a.is_there, there) in
      is ∙ subst (λ (x : Descriptor). has_target x.targets ≡ true) same a.followed,
)

pub none_awaited : (p : Listing) (n index : ℕ) → n ≡ length p.tasks → ((t : ℕ) → t < n → TaskIsAwaited p t index → ⊥) → IsAwaited p index → ⊥
none_awaited p n index end none some =
    let less : some.task < length p.tasks = slice_get_within p.tasks some.task some.descriptor some.is_there in
    none some.task (omega arith) (record { descriptor = some.descriptor; is_there = some.is_there; reached = some.reached; followed = some.followed })

-- what is not none is some
pub some_mask : (o mask : Option ℕ) (b : Bool) → o ≡ mask → is_some o ≡ not b → b ≡ false → is_some mask ≡ true
some_mask o mask b same is fails = sym (ap (λ (x : Option ℕ). is_some x) same) ∙ (is ∙ ap (λ (x : Bool). not x) fails)
