-- After an instruction that a task reaches, the task's masks tell what may be written again.
use Rattle.std.proofs.Common.{◌≡◌, ℕ, ◌<◌, ◌↔◌, ◌||◌, Bool, true, false, not, Option, Some, None, List, length, slice_get, refl, sym, ◌∙◌, ap, subst, inl, inr}
use Rattle.std.specs.Prelude.{is_some}
use Rattle.std.proofs.lemmas.Bool.{or_cases, or_left, or_right, cases_Bool}
use Rattle.mips_instructions.specs.Words.{has}
use Rattle.mips_instructions.specs.Instruction.{dests}
use Rattle.task_descriptor.specs.Listing.{Listing}
use Rattle.task_descriptor.specs.declared.descriptor.Marked.{Marked}
use Rattle.task_descriptor.specs.declared.descriptor.Descriptor.{Descriptor}
use Rattle.task_graph.specs.declared.edges.Next.{Next}
use Rattle.task_graph.specs.Edges.{onward}
use Rattle.task_graph.specs.Members.{Reaches}
use Rattle.task_graph.specs.Neighbours.{Follows, is_among, is_it}
use Rattle.task_graph.proofs.Searches.{it, that}
use Rattle.mask_certificate.specs.Lists.{mask_at, list_of}
use Rattle.mark_checker.specs.Rules.{in_mask}
use Rattle.mark_checker.specs.CheckerSteps.{holds_at}
use Rattle.mark_checker.proofs.Ahead.{holds_some, some_holds}
use Rattle.annotator.specs.Least.{LeastList, IsLeast}
use Rattle.annotator.specs.Proposed.{WritesLast}
use Rattle.annotator.specs.Marking.{WrittenBehind}
use Rattle.annotator.proofs.LeastMasks.{some_task}
use Rattle.finding_paths.specs.Costly.{IsAwaited, IsNotForwarded}
use Rattle.finding_paths.specs.Steps.{SomeTaskLacks}

mask_has : (o : Option ℕ) (r : ℕ) → in_mask o r ≡ true → (k : ℕ) × (o ≡ Some k) × (has k r ≡ true)
mask_has None r h = absurd (cc)
mask_has (Some k) r h = (k, refl, h)

some_of : (o : Option ℕ) → is_some o ≡ true → (k : ℕ) × (o ≡ Some k)
some_of None h = absurd (cc)
some_of (Some k) h = (k, refl)

-- the task reaches what it has a mask of
pub reaches : (p : Listing) (cert : List (List (ℕ × ℕ))) (t index : ℕ) → IsLeast p cert → t < length p.tasks → is_some (mask_at (list_of cert t) index) ≡ true
    → (d : Descriptor) × LeastList p d (list_of cert t) × Reaches p d.entry index
reaches p cert t index least inside masked =
    let task = some_task p.tasks t inside in
    let list = least.least t task.0 task.1 in
    (task.0, list, (list.reached index).0 masked)

pub behind_exact : (p : Listing) (cert : List (List (ℕ × ℕ))) (t index r : ℕ) (next : Next) (first second joined : ℕ) → IsLeast p cert → t < length p.tasks
    → is_some (mask_at (list_of cert t) index) ≡ true → ((j : ℕ) → (is_among next j ≡ true) ↔ Follows p index j)
    → has first r ≡ holds_at next.first (λ j. in_mask (mask_at (list_of cert t) j) r) → has second r ≡ holds_at next.second (λ j. in_mask (mask_at (list_of cert t) j) r)
    → has joined r ≡ (has first r || has second r) → (has joined r ≡ true) ↔ WrittenBehind p index r
behind_exact p cert t index r next first second joined least inside masked among one two members = (
  λ h. elim (or_cases (has first r) (has second r) (sym members ∙ h)) [
    | inl a ↦ let k = holds_some next.first test (sym one ∙ a) in from k.0 (or_left (is_it next.first k.0) (is_it next.second k.0) (it next.first k.0 k.1)) k.2
    | inr b ↦ let k = holds_some next.second test (sym two ∙ b) in from k.0 (or_right (is_it next.first k.0) (is_it next.second k.0) (it next.second k.0 k.1)) k.2
  ],
  λ w. members ∙ elim (or_cases (is_it next.first w.next) (is_it next.second w.next) ((among w.next).1 w.follows)) [
    | inl a ↦ or_left (has first r) (has second r) (one ∙ some_holds next.first test w.next (that next.first w.next a) (held w))
    | inr b ↦ or_right (has first r) (has second r) (two ∙ some_holds next.second test w.next (that next.second w.next b) (held w))
  ],
)
  where
    test : ℕ → Bool
    test j = in_mask (mask_at (list_of cert t) j) r

    here : (d : Descriptor) × LeastList p d (list_of cert t) × Reaches p d.entry index
    here = reaches p cert t index least inside masked

    from : (j : ℕ) → is_among next j ≡ true → test j ≡ true → WrittenBehind p index r
    from j h holds =
        let k = mask_has (mask_at (list_of cert t) j) r holds in
        record { next = j; follows = (among j).0 h; writes = (here.1.exact j k.0 r k.1).0 k.2 }

    held : (w : WrittenBehind p index r) → test w.next ≡ true
    held w =
        let on : Reaches p here.0.entry w.next = record { path = onward here.2.path w.follows.edge; within = w.follows.within } in
        let k = some_of (mask_at (list_of cert t) w.next) ((here.1.reached w.next).1 on) in
        ap (λ (o : Option ℕ). in_mask o r) k.1 ∙ (here.1.exact w.next k.0 r k.1).1 w.writes

-- nothing is lacked, so each destination is created
created : (p : Listing) (index written : ℕ) (m : Marked) → ((r : ℕ) → has written r ≡ dests m.op r) → (SomeTaskLacks p index written → ⊥)
    → (t : ℕ) (d : Descriptor) (r : ℕ) → slice_get p.tasks t ≡ Some d → Reaches p d.entry index → dests m.op r ≡ true → has d.create r ≡ true
created p index written m writes none t d r there reached w = elim (cases_Bool (has d.create r)) [
  | inl has_it ↦ has_it
  | inr fails ↦ absurd (none (record {
    task = t;
    lacking = record { descriptor = d; is_there = there; reached = reached; lacks = λ all. both (has d.create r) (all r (writes r ∙ w)) fails };
  }))
]
  where
    both : (b : Bool) → b ≡ true → b ≡ false → ⊥
    both b x y = cc

pub not_forwarded_exact : (p : Listing) (index written : ℕ) (m : Marked) (lacks : Bool) → slice_get p.code index ≡ Some m → m.forward ≡ false → IsAwaited p index → WritesLast p index m.op
    → ((r : ℕ) → has written r ≡ dests m.op r) → ((lacks ≡ true) ↔ SomeTaskLacks p index written) → (not lacks ≡ true) ↔ IsNotForwarded p index
not_forwarded_exact p index written m true there bare awaited last writes exact = (
  λ h. absurd (cc),
  λ n. let l = (exact.0 refl).lacking in
      let same : n.at ≡ m = cc (n.is_there, there) in
      absurd (l.lacks (λ r w. n.created (exact.0 refl).task l.descriptor r l.is_there l.reached (subst (λ (x : Marked). dests x.op r ≡ true) (sym same) (sym (writes r) ∙ w)))),
)
not_forwarded_exact p index written m false there bare awaited last writes exact = (
  λ h. record { at = m; is_there = there; unmarked = bare; awaited = awaited; last = last; created = created p index written m writes (λ s. no (exact.1 s)) },
  λ n. refl,
)
  where
    no : false ≡ true → ⊥
    no h = cc
