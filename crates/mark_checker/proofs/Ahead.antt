-- A test of some end of an instruction's edges is the test of one of the two indices that the code
-- has: each way an index goes over, by cases on which of the two it is.
use Rattle.std.proofs.Common.{◌≡◌, ℕ, ◌+◌, ◌<◌, ◌≤◌, ◌⊎◌, ◌↔◌, Bool, true, false, ◌&&◌, ◌||◌, nat_lt, nat_le, Option, Some, None, ◌++◌, length, slice_get, refl, sym, ◌∙◌, ap, subst, inl, inr, arith}
use Rattle.std.specs.List.{list_any}
use Rattle.std.specs.Option.{option_to_list}
use Rattle.std.proofs.lemmas.Bool.{or_cases, or_left, or_right, and_parts, and_from, ltb-true, lt-ltb, leb-true, le-leb, eqb-true, eq-eqb}
use Rattle.task_descriptor.specs.Listing.{Listing}
use Rattle.task_descriptor.specs.declared.descriptor.Marked.{Marked}
use Rattle.task_graph.specs.declared.edges.Next.{Next}
use Rattle.task_graph.specs.Edges.{Edge, end_of, ends_of}
use Rattle.task_graph.specs.Neighbours.{Follows, FallsOff, is_among, is_it}
use Rattle.task_graph.proofs.EdgeLemmas.{edge_from, edge_to}
use Rattle.mark_checker.specs.CheckerSteps.{holds_at}

pub bool_same : (a b : Bool) → (a ≡ true → b ≡ true) → (b ≡ true → a ≡ true) → a ≡ b
bool_same true true f g = refl
bool_same false false f g = refl
bool_same true false f g = sym (f refl)
bool_same false true f g = g refl

pub any_of : (test : ℕ → Bool) (a b : Option ℕ) → list_any test (option_to_list a ++ option_to_list b) ≡ (holds_at a test || holds_at b test)
any_of test None None = refl
any_of test None (Some k) = or_false (test k)
  where
    or_false : (x : Bool) → (x || false) ≡ x
    or_false true = refl
    or_false false = refl
any_of test (Some j) None = refl
any_of test (Some j) (Some k) = ap (λ (x : Bool). test j || x) (or_false (test k))
  where
    or_false : (x : Bool) → (x || false) ≡ x
    or_false true = refl
    or_false false = refl

pub holds_some : (o : Option ℕ) (test : ℕ → Bool) → holds_at o test ≡ true → (j : ℕ) × (o ≡ Some j) × (test j ≡ true)
holds_some None test h = absurd (cc)
holds_some (Some j) test h = (j, refl, h)

pub some_holds : (o : Option ℕ) (test : ℕ → Bool) (j : ℕ) → o ≡ Some j → test j ≡ true → holds_at o test ≡ true
some_holds o test j e h = subst (λ (x : Option ℕ). holds_at x test ≡ true) (sym e) h

it : (o : Option ℕ) (j : ℕ) → o ≡ Some j → is_it o j ≡ true
it None j e = absurd (cc)
it (Some k) j e = eq-eqb k j (cc)

that : (o : Option ℕ) (j : ℕ) → is_it o j ≡ true → o ≡ Some j
that None j e = absurd (cc)
that (Some k) j e = ap (λ n. Some n) (eqb-true k j e)

-- from a test of either of two to a test of either of two others
carried : (a b c d : Option ℕ) (f g : ℕ → Bool)
    → ((j : ℕ) → (a ≡ Some j) ⊎ (b ≡ Some j) → f j ≡ true → ((c ≡ Some j) ⊎ (d ≡ Some j)) × (g j ≡ true))
    → (holds_at a f || holds_at b f) ≡ true → (holds_at c g || holds_at d g) ≡ true
carried a b c d f g link h = elim (or_cases (holds_at a f) (holds_at b f) h) [
  | inl x ↦ let k = holds_some a f x in over k.0 (link k.0 (inl k.1) k.2)
  | inr y ↦ let k = holds_some b f y in over k.0 (link k.0 (inr k.1) k.2)
]
  where
    over : (j : ℕ) → ((c ≡ Some j) ⊎ (d ≡ Some j)) × (g j ≡ true) → (holds_at c g || holds_at d g) ≡ true
    over j k = elim k.0 [
      | inl e ↦ or_left (holds_at c g) (holds_at d g) (some_holds c g j e k.1)
      | inr e ↦ or_right (holds_at c g) (holds_at d g) (some_holds d g j e k.1)
    ]

either : (next : Next) (j : ℕ) → is_among next j ≡ true → (next.first ≡ Some j) ⊎ (next.second ≡ Some j)
either next j h = elim (or_cases (is_it next.first j) (is_it next.second j) h) [
  | inl x ↦ inl (that next.first j x)
  | inr y ↦ inr (that next.second j y)
]

among : (next : Next) (j : ℕ) → (next.first ≡ Some j) ⊎ (next.second ≡ Some j) → is_among next j ≡ true
among next j h = elim h [
  | inl e ↦ or_left (is_it next.first j) (is_it next.second j) (it next.first j e)
  | inr e ↦ or_right (is_it next.first j) (is_it next.second j) (it next.second j e)
]

-- each inner successor is an index of an instruction
pub below_limit : (p : Listing) (i : ℕ) (next : Next) → length p.code ≤ 4096
    → ((j : ℕ) → (is_among next j ≡ true) ↔ Follows p i j)
    → (j : ℕ) → (next.first ≡ Some j) ⊎ (next.second ≡ Some j) → j < 4096
below_limit p i next few exact j e =
    let within : j < length p.code = ((exact j).0 (among next j e)).within in
    omega arith

from_end : (p : Listing) (leaving : Bool) (i j : ℕ) (m : Marked) → slice_get p.code i ≡ Some m
    → (end_of leaving m i false ≡ Some j) ⊎ (end_of leaving m i true ≡ Some j) → Edge p leaving i j
from_end p leaving i j m there h = elim h [
  | inl e ↦ edge_from p leaving i j m false there e
  | inr e ↦ edge_from p leaving i j m true there e
]

-- the inner successors
pub any_inside : (p : Listing) (i : ℕ) (m : Marked) (next : Next) (test : ℕ → Bool) → slice_get p.code i ≡ Some m
    → ((j : ℕ) → (is_among next j ≡ true) ↔ Follows p i j)
    → (holds_at next.first test || holds_at next.second test) ≡ list_any (λ j. nat_lt j (length p.code) && test j) (ends_of false m i)
any_inside p i m next test there exact =
    bool_same (holds_at next.first test || holds_at next.second test) (holds_at a guarded || holds_at b guarded)
    (carried next.first next.second a b test guarded (λ j e h.
    let f = (exact j).0 (among next j e) in
    (edge_to p false i j m there f.edge, and_from (nat_lt j (length p.code)) (test j) (lt-ltb j (length p.code) f.within) h)))
    (carried a b next.first next.second guarded test (λ j e h.
    let k = and_parts (nat_lt j (length p.code)) (test j) h in
    (either next j ((exact j).1 (record { edge = from_end p false i j m there e; within = ltb-true j (length p.code) k.0 })), k.1)))
    ∙ sym (any_of guarded a b)
  where
    a : Option ℕ
    a = end_of false m i false

    b : Option ℕ
    b = end_of false m i true

    guarded : ℕ → Bool
    guarded j = nat_lt j (length p.code) && test j

-- the direct exits
pub any_exit : (p : Listing) (i : ℕ) (m : Marked) (next : Next) (test : ℕ → Bool) → slice_get p.code i ≡ Some m
    → ((j : ℕ) → (is_among next j ≡ true) ↔ Edge p true i j)
    → (holds_at next.first test || holds_at next.second test) ≡ list_any test (ends_of true m i)
any_exit p i m next test there exact =
    bool_same (holds_at next.first test || holds_at next.second test) (holds_at (end_of true m i false) test || holds_at (end_of true m i true) test)
    (carried next.first next.second (end_of true m i false) (end_of true m i true) test test
    (λ j e h. (edge_to p true i j m there ((exact j).0 (among next j e)), h)))
    (carried (end_of true m i false) (end_of true m i true) next.first next.second test test
    (λ j e h. (either next j ((exact j).1 (from_end p true i j m there e)), h)))
    ∙ sym (any_of test (end_of true m i false) (end_of true m i true))

-- the ends beyond the code
pub any_beyond : (p : Listing) (i : ℕ) (m : Marked) (off : Bool) → slice_get p.code i ≡ Some m
    → (off ≡ true) ↔ FallsOff p i
    → off ≡ list_any (λ j. nat_le (length p.code) j) (ends_of false m i)
any_beyond p i m off there exact =
    bool_same off (holds_at a beyond || holds_at b beyond)
    (λ h. let f = exact.0 h in
    let far : beyond f.to ≡ true = le-leb (length p.code) f.to f.beyond in
    elim (edge_to p false i f.to m there f.edge) [
      | inl e ↦ or_left (holds_at a beyond) (holds_at b beyond) (some_holds a beyond f.to e far)
      | inr e ↦ or_right (holds_at a beyond) (holds_at b beyond) (some_holds b beyond f.to e far)
    ])
    (λ h. elim (or_cases (holds_at a beyond) (holds_at b beyond) h) [
      | inl x ↦ let k = holds_some a beyond x in
          exact.1 (record { to = k.0; edge = edge_from p false i k.0 m false there k.1; beyond = leb-true (length p.code) k.0 k.2 })
      | inr y ↦ let k = holds_some b beyond y in
          exact.1 (record { to = k.0; edge = edge_from p false i k.0 m true there k.1; beyond = leb-true (length p.code) k.0 k.2 })
    ])
    ∙ sym (any_of beyond a b)
  where
    a : Option ℕ
    a = end_of false m i false

    b : Option ℕ
    b = end_of false m i true

    beyond : ℕ → Bool
    beyond j = nat_le (length p.code) j
