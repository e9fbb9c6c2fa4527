-- A table of tasks by instruction: the lists of the least certificate are noted in it one after another.
use Rattle.std.proofs.Common.{◌≡◌, ℕ, ◌+◌, ◌<◌, ◌⊎◌, ◌↔◌, Bool, true, false, Option, Some, None, List, [], ◌∷◌, ◌++◌, length, set, replicate, slice_get, refl, sym, ◌∙◌, ap, subst, arith, zero, suc, inl, inr}
use Rattle.std.specs.Prelude.{Contains, is_some}
use Rattle.std.proofs.lemmas.Bool.{cases_Bool, cases_eq, cases_lt}
use Rattle.std.proofs.lemmas.List.{get_or-set_same, get_or-set_other, length-set, length-replicate}
use Rattle.std.proofs.lemmas.List.Elements.{Contains-append_left, Contains-push, Contains-push_cases}
use Rattle.std.proofs.lemmas.Option.{slice_get_within}
use Rattle.task_descriptor.specs.Listing.{Listing}
use Rattle.task_descriptor.specs.declared.descriptor.Descriptor.{Descriptor}
use Rattle.task_graph.specs.Members.{Reaches}
use Rattle.mask_certificate.specs.Lists.{mask_at, list_of}
use Rattle.annotator.specs.Least.{LeastList, IsLeast}
use Rattle.annotator.specs.Proposed.{IsMember}
use Rattle.annotator.specs.Marking.{indices_of}
use Rattle.annotator.proofs.MarkLemmas.{listed_reached}
use Rattle.annotator.proofs.LeastMasks.{some_task}
use Rattle.finding_paths.specs.Steps.{AreNoted, AreReaching, TaskReaches, task_at}

-- a task noted at no index, and at one more
pub noted_none : (task : ℕ) (table : List (Option ℕ)) → AreNoted [] task table table
noted_none task table = record { sized = refl; noted = λ i c. absurd (omega (arith, c.1)); kept = λ i not. refl }

pub noted_more : (indices more : List ℕ) (index task : ℕ) (old new : List (Option ℕ)) → more ≡ indices ++ index ∷ [] → index < length old → AreNoted indices task old new
    → AreNoted more task old (set new index (Some task))
noted_more indices more index task old new is within m = record {
  sized = length-set new index (Some task) ∙ m.sized;
  noted = λ i c. elim (Contains-push_cases indices index i (subst (λ (xs : List ℕ). Contains xs i) is c)) [
    | inl was ↦ elim (cases_eq i index) [
      | inl same ↦ there i same
      | inr ne ↦ get_or-set_other new index i (Some task) None ne ∙ m.noted i was
    ]
    | inr same ↦ there i (sym same)
  ];
  kept = λ i not. elim (cases_eq i index) [
    | inl same ↦ absurd (not (subst (λ (k : ℕ). Contains more k) (sym same) (subst (λ (xs : List ℕ). Contains xs index) (sym is) (Contains-push indices index))))
    | inr ne ↦ get_or-set_other new index i (Some task) None ne
        ∙ m.kept i (λ c. not (subst (λ (xs : List ℕ). Contains xs i) (sym is) (Contains-append_left indices (index ∷ []) i c)))
  ];
}
  where
    there : (i : ℕ) → i ≡ index → task_at (set new index (Some task)) i ≡ Some task
    there i same = subst (λ (k : ℕ). task_at (set new index (Some task)) k ≡ Some task) (sym same) (get_or-set_same new index (Some task) None (omega (arith, m.sized)))

nothing_at : (n i : ℕ) → task_at (replicate n None) i ≡ None
nothing_at zero i = refl
nothing_at (suc n) zero = refl
nothing_at (suc n) (suc i) = nothing_at n i

some_none : (o : Option ℕ) (t : ℕ) → o ≡ Some t → o ≡ None → ⊥
some_none o t a b = cc

-- a table of no task, and of one more
pub reaching_none : (p : Listing) (table : List (Option ℕ)) (n : ℕ) → table ≡ replicate n None → n ≡ length p.code → AreReaching p 0 table
reaching_none p table n is sized = record {
  sized = ap (λ (xs : List (Option ℕ)). length xs) is ∙ length-replicate n None ∙ sized;
  reaches = λ i t h. absurd (some_none (task_at table i) t h (ap (λ (xs : List (Option ℕ)). task_at xs i) is ∙ nothing_at n i));
  none = λ i t within h less. absurd (omega arith);
}

-- the list of a task has an index exactly where the task reaches it
listed : (p : Listing) (n : ℕ) (d : Descriptor) (es : List (ℕ × ℕ)) (i : ℕ) → LeastList p d es → slice_get p.tasks n ≡ Some d
    → (Contains (indices_of es) i → TaskReaches p n i) × (TaskReaches p n i → Contains (indices_of es) i)
listed p n d es i least there = (
  λ c. record { descriptor = d; is_there = there; reached = (listed_reached p d es least i).0 c },
  λ r. let same : r.descriptor ≡ d = cc (r.is_there, there) in
      (listed_reached p d es least i).1 (subst (λ (x : Descriptor). Reaches p x.entry i) same r.reached),
)

pub reaching_more : (p : Listing) (cert : List (List (ℕ × ℕ))) (n : ℕ) (es : List (ℕ × ℕ)) (old new : List (Option ℕ)) → IsLeast p cert → n < length p.tasks → es ≡ list_of cert n
    → AreNoted (indices_of es) n old new → AreReaching p n old → AreReaching p (n + 1) new
reaching_more p cert n es old new least inside is noted before = record {
  sized = noted.sized ∙ before.sized;
  reaches = λ i t h. elim (decided i) [
    | inl stands ↦ subst (λ (k : ℕ). TaskReaches p k i) (same_task (task_at new i) n t (noted.noted i stands) h) ((its i).0 stands)
    | inr lacks ↦ before.reaches i t (sym (noted.kept i lacks) ∙ h)
  ];
  none = λ i t within h less r. elim (decided i) [
    | inl stands ↦ some_none (task_at new i) n (noted.noted i stands) h
    | inr lacks ↦ elim (cases_lt t n) [
      | inl earlier ↦ before.none i t within (sym (noted.kept i lacks) ∙ h) earlier r
      | inr last ↦
          let same : t ≡ n = omega arith in
          lacks ((its i).1 (subst (λ (k : ℕ). TaskReaches p k i) same r))
    ]
  ];
}
  where
    task : (d : Descriptor) × (slice_get p.tasks n ≡ Some d)
    task = some_task p.tasks n inside

    list : LeastList p task.0 es
    list = subst (λ (xs : List (ℕ × ℕ)). LeastList p task.0 xs) (sym is) (least.least n task.0 task.1)

    its : (i : ℕ) → (Contains (indices_of es) i → TaskReaches p n i) × (TaskReaches p n i → Contains (indices_of es) i)
    its i = listed p n task.0 es i list task.1

    fails : (b : Bool) → b ≡ true → b ≡ false → ⊥
    fails b t f = cc

    decided : (i : ℕ) → Contains (indices_of es) i ⊎ (Contains (indices_of es) i → ⊥)
    decided i = elim (cases_Bool (is_some (mask_at es i))) [
      | inl masked ↦ inl ((listed_reached p task.0 es list i).1 ((list.reached i).0 masked))
      | inr bare ↦ inr (λ c. fails (is_some (mask_at es i)) ((list.reached i).1 ((listed_reached p task.0 es list i).0 c)) bare)
    ]

    same_task : (o : Option ℕ) (a b : ℕ) → o ≡ Some a → o ≡ Some b → a ≡ b
    same_task o a b x y = cc

-- whether a task stands at an index
pub member_exact : (p : Listing) (index : ℕ) (table : List (Option ℕ)) (o : Option ℕ) (b : Bool) → AreReaching p (length p.tasks) table → index < length p.code → o ≡ task_at table index
    → b ≡ is_some o → (b ≡ true) ↔ IsMember p index
member_exact p index table None b reaching within is test = (
  λ yes. absurd (cc),
  λ m. absurd (reaching.none index m.task within (sym is) (slice_get_within p.tasks m.task m.descriptor m.is_there)
      (record { descriptor = m.descriptor; is_there = m.is_there; reached = m.reached })),
)
member_exact p index table (Some t) b reaching within is test =
    let r = reaching.reaches index t (sym is) in
    (λ yes. record { task = t; descriptor = r.descriptor; is_there = r.is_there; reached = r.reached }, λ m. test)

none_of : (o : Option ℕ) → ((t : ℕ) → o ≡ Some t → ⊥) → o ≡ None
none_of None fails = refl
none_of (Some t) fails = absurd (fails t refl)

-- no task stands where none reaches
pub not_member : (p : Listing) (index : ℕ) (table : List (Option ℕ)) → AreReaching p (length p.tasks) table → index < length p.code → ((t : ℕ) → task_at table index ≡ Some t → ⊥)
    → IsMember p index → ⊥
not_member p index table reaching within fails m =
    reaching.none index m.task within (none_of (task_at table index) fails) (slice_get_within p.tasks m.task m.descriptor m.is_there)
    (record { descriptor = m.descriptor; is_there = m.is_there; reached = m.reached })

-- a task that stands at an index has a mask there
pub mask_there : (p : Listing) (cert : List (List (ℕ × ℕ))) (t index : ℕ) → IsLeast p cert → TaskReaches p t index → is_some (mask_at (list_of cert t) index) ≡ true
mask_there p cert t index least r = ((least.least t r.descriptor r.is_there).reached index).1 r.reached

pub task_within : (p : Listing) (t index : ℕ) → TaskReaches p t index → t < length p.tasks
task_within p t index r = slice_get_within p.tasks t r.descriptor r.is_there
