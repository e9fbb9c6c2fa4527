-- An edge is an end that the instruction has: by cases on the kind, and on whether the branch is taken.
use Rattle.std.proofs.Common.{◌≡◌, ℕ, ◌<◌, ◌≤◌, ◌⊎◌, ◌↔◌, Bool, true, false, if◌then◌else◌, Option, Some, None, List, length, slice_get, get_or, refl, sym, ◌∙◌, subst, inl, inr, arith}
use Rattle.std.proofs.lemmas.Option.{slice_get_read}
use Rattle.std.specs.Bool.{beq}
use Rattle.task_descriptor.specs.Listing.{Listing}
use Rattle.task_descriptor.specs.declared.descriptor.Marked.{Marked}
use Rattle.task_graph.specs.Edges.{Edge, edge, leaves, end_of, is_indirect}
use Rattle.task_graph.specs.Neighbours.{Follows, FallsOff, ExitsIndirectly}
use Rattle.task_descriptor.specs.declared.descriptor.Stop.TheVariants as stop

if_some : (b k : Bool) (x : Option ℕ) (j : ℕ) → (if beq b k then x else None) ≡ Some j → (b ≡ k) × (x ≡ Some j)
if_some true true x j h = (refl, h)
if_some false false x j h = (refl, h)
if_some true false x j h = absurd (cc)
if_some false true x j h = absurd (cc)

some_if : (b k : Bool) (x : Option ℕ) (j : ℕ) → b ≡ k → x ≡ Some j → (if beq b k then x else None) ≡ Some j
some_if true true x j e h = h
some_if false false x j e h = h
some_if true false x j e h = cc
some_if false true x j e h = cc

pub edge_from : (p : Listing) (leaving : Bool) (i j : ℕ) (m : Marked) (taken : Bool)
    → slice_get p.code i ≡ Some m → end_of leaving m i taken ≡ Some j → Edge p leaving i j
edge_from p leaving i j m taken there h =
    let k : (leaves m.stop taken ≡ leaving) × (edge m.op i taken ≡ Some j) = if_some (leaves m.stop taken) leaving (edge m.op i taken) j h in
    record { at = m; is_there = there; taken = taken; leads = k.1; kind = k.0 }

by_taken : (leaving : Bool) (i j : ℕ) (m : Marked) (taken : Bool) → end_of leaving m i taken ≡ Some j
    → (end_of leaving m i false ≡ Some j) ⊎ (end_of leaving m i true ≡ Some j)
by_taken leaving i j m false h = inl h
by_taken leaving i j m true h = inr h

pub edge_to : (p : Listing) (leaving : Bool) (i j : ℕ) (m : Marked) → slice_get p.code i ≡ Some m → Edge p leaving i j
    → (end_of leaving m i false ≡ Some j) ⊎ (end_of leaving m i true ≡ Some j)
edge_to p leaving i j m there e =
    let same : e.at ≡ m = cc (e.is_there, there) in
    let here : end_of leaving e.at i e.taken ≡ Some j = some_if (leaves e.at.stop e.taken) leaving (edge e.at.op i e.taken) j e.kind e.leads in
    by_taken leaving i j m e.taken (subst (λ (x : Marked). end_of leaving x i e.taken ≡ Some j) same here)

pub read_there : (p : Listing) (code : List Marked) (i : ℕ) (m : Marked) → code ≡ p.code → i < length p.code
    → m ≡ get_or code i m → slice_get p.code i ≡ Some m
read_there p code i m same within is =
    subst (λ (xs : List Marked). slice_get xs i ≡ Some m) same
    (slice_get_read code (length code) i m refl (subst (λ (xs : List Marked). i < length xs) (sym same) within) is)

-- A test that holds of the two ends holds of the edges' ends.
pub edges_exact : (p : Listing) (leaving : Bool) (i : ℕ) (m : Marked) (onward branch : Option ℕ) (among : ℕ → Bool)
    → slice_get p.code i ≡ Some m → onward ≡ end_of leaving m i false → branch ≡ end_of leaving m i true
    → ((j : ℕ) → (among j ≡ true) ↔ ((onward ≡ Some j) ⊎ (branch ≡ Some j)))
    → (j : ℕ) → (among j ≡ true) ↔ Edge p leaving i j
edges_exact p leaving i m onward branch among there on br am j = (
  λ h. elim ((am j).0 h) [
    | inl e ↦ edge_from p leaving i j m false there (sym on ∙ e)
    | inr e ↦ edge_from p leaving i j m true there (sym br ∙ e)
  ],
  λ e. elim (edge_to p leaving i j m there e) [
    | inl h ↦ (am j).1 (inl (on ∙ h))
    | inr h ↦ (am j).1 (inr (br ∙ h))
  ],
)

-- So it is of the inner ends that lie in the code.
pub follows_exact : (p : Listing) (i n : ℕ) (m : Marked) (onward branch : Option ℕ) (among : ℕ → Bool)
    → slice_get p.code i ≡ Some m → n ≡ length p.code
    → ((j : ℕ) → (onward ≡ Some j) ↔ ((end_of false m i false ≡ Some j) × (j < n)))
    → ((j : ℕ) → (branch ≡ Some j) ↔ ((end_of false m i true ≡ Some j) × (j < n)))
    → ((j : ℕ) → (among j ≡ true) ↔ ((onward ≡ Some j) ⊎ (branch ≡ Some j)))
    → (j : ℕ) → (among j ≡ true) ↔ Follows p i j
follows_exact p i n m onward branch among there count on br am j = (
  λ h. elim ((am j).0 h) [
    | inl e ↦ from false ((on j).0 e)
    | inr e ↦ from true ((br j).0 e)
  ],
  λ f. let inside : j < n = omega (arith, f.within) in
      elim (edge_to p false i j m there f.edge) [
        | inl h ↦ (am j).1 (inl ((on j).1 (h, inside)))
        | inr h ↦ (am j).1 (inr ((br j).1 (h, inside)))
      ],
)
  where
    from : (taken : Bool) → (end_of false m i taken ≡ Some j) × (j < n) → Follows p i j
    from taken h = record { edge = edge_from p false i j m taken there h.0; within = subst (λ k. j < k) count h.1 }

-- So it is of the inner ends that don't.
pub falls_exact : (p : Listing) (i n : ℕ) (m : Marked) (off : Bool)
    → slice_get p.code i ≡ Some m → n ≡ length p.code
    → (off ≡ true) ↔ ((j : ℕ) × ((end_of false m i false ≡ Some j) ⊎ (end_of false m i true ≡ Some j)) × (n ≤ j))
    → (off ≡ true) ↔ FallsOff p i
falls_exact p i n m off there count ex = (
  λ h. let k = ex.0 h in elim k.1 [
    | inl e ↦ from k.0 false e k.2
    | inr e ↦ from k.0 true e k.2
  ],
  λ f. ex.1 (f.to, edge_to p false i f.to m there f.edge, subst (λ k. k ≤ f.to) (sym count) f.beyond),
)
  where
    from : (j : ℕ) (taken : Bool) → end_of false m i taken ≡ Some j → n ≤ j → FallsOff p i
    from j taken h above = record { to = j; edge = edge_from p false i j m taken there h; beyond = subst (λ k. k ≤ j) count above }

pub indirect_exact : (p : Listing) (i : ℕ) (m : Marked) (off : Bool) → slice_get p.code i ≡ Some m
    → (off ≡ true) ↔ ((is_indirect m.op ≡ true) × (m.stop ≡ stop.Always))
    → (off ≡ true) ↔ ExitsIndirectly p i
indirect_exact p i m off there ex = (
  λ h. let k = ex.0 h in record { at = m; is_there = there; indirect = k.0; always = k.1 },
  λ e. let same : e.at ≡ m = cc (e.is_there, there) in
      ex.1 (subst (λ (x : Marked). is_indirect x.op ≡ true) same e.indirect, subst (λ (x : Marked). x.stop ≡ stop.Always) same e.always),
)
