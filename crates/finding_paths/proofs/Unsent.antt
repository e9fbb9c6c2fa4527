-- The search for where a register may be unsent: it begins with the entries, and ends with what is come to.
use Rattle.std.proofs.Common.{◌≡◌, ℕ, ◌+◌, ◌<◌, ◌↔◌, Bool, true, false, Some, None, List, [], length, slice_get, replicate, refl, sym, ◌∙◌, ap, subst, inl, inr, arith}
use Rattle.std.proofs.lemmas.Bool.{cases_lt}
use Rattle.std.proofs.lemmas.List.{length-set, length-replicate}
use Rattle.std.proofs.lemmas.Option.{slice_get_within}
use Rattle.task_descriptor.specs.Listing.{Listing}
use Rattle.task_descriptor.specs.declared.descriptor.Marked.{Marked}
use Rattle.task_descriptor.specs.declared.descriptor.Descriptor.{Descriptor}
use Rattle.task_graph.specs.Edges.{sends}
use Rattle.task_graph.specs.Neighbours.{Follows}
use Rattle.task_graph.specs.SearchSteps.{is_marked, mark_of, work_of, Search}
use Rattle.task_graph.proofs.Searches.{Way, marked_new, marked_kept, search_begins, searches_on, all_led}
use Rattle.finding_paths.specs.Costly.{UnsentPath, stay, onward, ComesUnsent}
use Rattle.finding_paths.specs.Steps.{FollowsUnsent, IsBegun}

pub coming : (p : Listing) (r : ℕ) → Way (length p.code) (ComesUnsent p r) (FollowsUnsent p r)
coming p r = record {
  comes_within = λ i c. c.within;
  leads_within = λ i j f. f.follows.within;
  comes_on = λ i j c f.
      record { task = c.task; descriptor = c.descriptor; is_there = c.is_there; path = onward c.path f.follows.edge f.unsent; within = f.follows.within };
}

-- the entries of all tasks are marked
abbrev pub AreBegun : Listing → List Bool → Type 0
AreBegun p marks = (t : ℕ) (d : Descriptor) → slice_get p.tasks t ≡ Some d → is_marked marks d.entry ≡ true

-- the entries, one after the other
pub begun_none : (p : Listing) (marks : List Bool) (work : List ℕ) → marks ≡ replicate (length p.code) false → work ≡ [] → IsBegun p 0 marks work
begun_none p marks work is idle = record {
  sized = ap (λ (xs : List Bool). length xs) is ∙ length-replicate (length p.code) false;
  entries = λ t d less there. absurd (omega arith);
  search = λ r. search_begins (coming p r) marks work is idle;
}

pub begun_more : (p : Listing) (n : ℕ) (d : Descriptor) (marks marks' : List Bool) (work work' : List ℕ) → slice_get p.tasks n ≡ Some d → d.entry < length marks
    → marks' ≡ mark_of (Some d.entry) marks → work' ≡ work_of (Some d.entry) marks work → IsBegun p n marks work → IsBegun p (n + 1) marks' work'
begun_more p n d marks marks' work work' there inside em ew before =
    subst (λ (ms : List Bool). IsBegun p (n + 1) ms work') (sym em) (subst (λ (ws : List ℕ). IsBegun p (n + 1) (mark_of (Some d.entry) marks) ws) (sym ew) more)
  where
    comes : (r j : ℕ) → Some d.entry ≡ Some j → ComesUnsent p r j
    comes r j e =
        let same : d.entry ≡ j = cc in
        subst (λ (k : ℕ). ComesUnsent p r k) same
        (record { task = n; descriptor = d; is_there = there; path = stay; within = subst (λ (k : ℕ). d.entry < k) before.sized inside })

    more : IsBegun p (n + 1) (mark_of (Some d.entry) marks) (work_of (Some d.entry) marks work)
    more = record {
      sized = length-set marks d.entry true ∙ before.sized;
      entries = λ t x less at. elim (cases_lt t n) [
        | inl earlier ↦ marked_kept marks d.entry x.entry inside (before.entries t x earlier at)
        | inr last ↦
            let same : t ≡ n = omega arith in
            let here : slice_get p.tasks n ≡ Some x = subst (λ (k : ℕ). slice_get p.tasks k ≡ Some x) same at in
            let same_task : d ≡ x = cc (here, there) in
            subst (λ (y : Descriptor). is_marked (mark_of (Some d.entry) marks) y.entry ≡ true) same_task (marked_new marks d.entry inside)
      ];
      search = λ r. searches_on (coming p r) marks work None (Some d.entry) (comes r) (before.search r);
    }

pub all_begun : (p : Listing) (marks : List Bool) (work : List ℕ) → IsBegun p (length p.tasks) marks work → AreBegun p marks
all_begun p marks work begun t d there = begun.entries t d (slice_get_within p.tasks t d there) there

-- nothing waits: what is marked is what is come to
all_marked : (p : Listing) (r entry k : ℕ) (marks : List Bool) → is_marked marks entry ≡ true → Search (length p.code) (ComesUnsent p r) (FollowsUnsent p r) marks [] None
    → UnsentPath p r entry k → k < length p.code → is_marked marks k ≡ true
all_marked p r entry k marks begun s stay within = begun
all_marked p r entry k marks begun s (onward {j = j} path e silent) within =
    all_led (coming p r) marks j k s (all_marked p r entry j marks begun s path (slice_get_within p.code j e.at e.is_there))
    (record { follows = record { edge = e; within = within }; unsent = silent })

pub search_ends : (p : Listing) (r : ℕ) (marks : List Bool) → AreBegun p marks → Search (length p.code) (ComesUnsent p r) (FollowsUnsent p r) marks [] None
    → (i : ℕ) → (is_marked marks i ≡ true) ↔ ComesUnsent p r i
search_ends p r marks begun s i = (
  λ m. s.sound i m,
  λ c. all_marked p r c.descriptor.entry i marks (begun c.task c.descriptor c.is_there) s c.path c.within,
)

-- an instruction that sends has no unsent successor
pub sends_none : (p : Listing) (r i j : ℕ) (m : Marked) → slice_get p.code i ≡ Some m → sends m r ≡ true → FollowsUnsent p r i j → ⊥
sends_none p r i j m there sent f =
    let same : f.follows.edge.at ≡ m = cc (f.follows.edge.is_there, there) in
    no (sym (subst (λ (x : Marked). sends x r ≡ false) same f.unsent) ∙ sent)
  where
    no : false ≡ true → ⊥
    no h = cc

pub silent_follows : (p : Listing) (r i j : ℕ) (m : Marked) (among : Bool) → slice_get p.code i ≡ Some m → sends m r ≡ false → ((among ≡ true) ↔ Follows p i j) → (among ≡ true) ↔ FollowsUnsent p r i j
silent_follows p r i j m among there silent exact = (
  λ h. let f = exact.0 h in
      let same : f.edge.at ≡ m = cc (f.edge.is_there, there) in
      record { follows = f; unsent = subst (λ (x : Marked). sends x r ≡ false) (sym same) silent },
  λ f. exact.1 f.follows,
)
