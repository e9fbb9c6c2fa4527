-- A stop is needless where no marked instruction is wrong for the task, and no target to which one exits is wrong for any
-- task that comes there: by cases on each exit.
use Rattle.std.proofs.Common.{◌≡◌, ℕ, ◌<◌, ◌⊎◌, ◌↔◌, Bool, true, false, not, ◌&&◌, ◌||◌, ◌==◌, Option, Some, None, List, [], ◌∷◌, length, slice_get, refl, sym, ◌∙◌, ap, subst, inl, inr, arith, zero, suc, zero-add}
use Rattle.std.specs.Prelude.{nat_lt, is_some}
use Rattle.std.specs.List.{list_any, range_with_len}
use Rattle.std.proofs.lemmas.Bool.{both_ways, cases_Bool, false_from_ne_true, and_parts, and_from, and_left, and_right, or_cases, or_parts, or_from, or_left, or_right, not-false, not-true, not_from_true, not_from_false, eq-eqb, eqb-true, ltb-true}
use Rattle.std.proofs.lemmas.List.{length-set}
use Rattle.std.proofs.lemmas.List.Elements.{All-from_get_or}
use Rattle.std.proofs.lemmas.List.Folds.{list_any_none, list_any_at, Any-from_list_any}
use Rattle.std.proofs.lemmas.List.FromFn.{length-range_with_len, get_or-range_with_len}
use Rattle.task_descriptor.specs.Listing.{Listing}
use Rattle.task_descriptor.specs.declared.descriptor.Marked.{Marked}
use Rattle.task_graph.specs.declared.edges.Next.{Next}
use Rattle.task_graph.specs.Edges.{end_of}
use Rattle.task_graph.specs.Members.{Reaches}
use Rattle.task_graph.specs.Neighbours.{Follows, is_among, is_it}
use Rattle.task_graph.specs.SearchSteps.{is_marked}
use Rattle.task_graph.proofs.EdgeLemmas.{follows_exact}
use Rattle.task_graph.proofs.Searches.{it, that}
use Rattle.mask_certificate.specs.Lists.{mask_at}
use Rattle.mark_subjects.specs.Subjects.{Judged, targets_of, entries_of, is_entry, is_end, end_in}
use Rattle.exit_diagnostics.specs.Needless.{unstopped, unstopped_in, without_stop, with_code, exit_at, may_exit, stays_right, goes_right, comes_to, IsNeedless}
use Rattle.exit_diagnostics.specs.NeedlessSteps.{is_listed, is_right, some_wrong, exits_to, some_exits_to, lacks, some_lacks, is_wrong_target, some_target_wrong, all_right}

-- as many instructions as before
pub as_many : (code : List Marked) (i : ℕ) (found : Option Marked) → length (unstopped_in code i found) ≡ length code
as_many code i None = refl
as_many code i (Some m) = length-set code i (unstopped m)

-- Inner successors.

some_there : (code : List Marked) (i : ℕ) → i < length code → (m : Marked) × (slice_get code i ≡ Some m)
some_there [] i h = absurd (omega arith)
some_there (m ∷ ms) zero h = (m, refl)
some_there (m ∷ ms) (suc i) h = some_there ms i (omega arith)

one_of : (next : Next) (j : ℕ) → (is_among next j ≡ true) ↔ ((next.first ≡ Some j) ⊎ (next.second ≡ Some j))
one_of next j = (
  λ h. elim (or_cases (is_it next.first j) (is_it next.second j) h) [
    | inl a ↦ inl (that next.first j a)
    | inr b ↦ inr (that next.second j b)
  ],
  λ e. elim e [
    | inl a ↦ or_left (is_it next.first j) (is_it next.second j) (it next.first j a)
    | inr b ↦ or_right (is_it next.first j) (is_it next.second j) (it next.second j b)
  ],
)

-- the end of an edge, if an instruction is there
abbrev pub IsInside : (code : List Marked) → (end inside : Option ℕ) → Type 0
IsInside code end inside = (j : ℕ) → (inside ≡ Some j) ↔ ((end ≡ Some j) × (j < length code))

inside_of : (code : List Marked) (end other inside : Option ℕ) → end ≡ other → IsInside code end inside → IsInside code other inside
inside_of code end other inside same is = subst (λ (o : Option ℕ). IsInside code o inside) same is

pub follows_next : (p : Listing) (code : List Marked) (i : ℕ) (next : Next) (onward branch : Option ℕ)
    → p.code ≡ code → i < length code
    → onward ≡ end_in false (slice_get code i) i false → branch ≡ end_in false (slice_get code i) i true
    → IsInside code onward next.first → IsInside code branch next.second
    → (j : ℕ) → (is_among next j ≡ true) ↔ Follows p i j
follows_next p code i next onward branch same less on br first second =
    let there = some_there code i less in
    let m = there.0 in
    let here : slice_get p.code i ≡ Some m = subst (λ (c : List Marked). slice_get c i ≡ Some m) (sym same) there.1 in
    let on_is : onward ≡ end_of false m i false = on ∙ ap (λ (o : Option Marked). end_in false o i false) there.1 in
    let br_is : branch ≡ end_of false m i true = br ∙ ap (λ (o : Option Marked). end_in false o i true) there.1 in
    follows_exact p i (length code) m next.first next.second (is_among next) here (ap (λ (c : List Marked). length c) (sym same))
    (inside_of code onward (end_of false m i false) next.first on_is first)
    (inside_of code branch (end_of false m i true) next.second br_is second) (one_of next)

-- Tests of the numbers below n, and of the elements of a list.

fails_below : (test : ℕ → Bool) (n k : ℕ) → list_any test (range_with_len 0 n) ≡ false → k < n → test k ≡ false
fails_below test n k none less =
    let long = length-range_with_len 0 n in
    false_from_ne_true (test k) (λ holds. both_ways (list_any test (range_with_len 0 n)) none
    (list_any_at test (range_with_len 0 n) k k (omega arith) (ap test (get_or-range_with_len 0 n k k less ∙ zero-add k) ∙ holds)))

none_below : (test : ℕ → Bool) (n : ℕ) → ((k : ℕ) → k < n → test k ≡ false) → list_any test (range_with_len 0 n) ≡ false
none_below test n fails =
    let long = length-range_with_len 0 n in
    list_any_none test (range_with_len 0 n) (All-from_get_or (λ (k : ℕ). test k ≡ false) (range_with_len 0 n) 0 (λ k less.
    let inside : k < n = omega arith in
    ap test (get_or-range_with_len 0 n k 0 inside ∙ zero-add k) ∙ fails k inside))

some_below : (test : ℕ → Bool) (n : ℕ) → list_any test (range_with_len 0 n) ≡ true → (k : ℕ) × (k < n) × (test k ≡ true)
some_below test n some =
    let long = length-range_with_len 0 n in
    let any = Any-from_list_any test (range_with_len 0 n) some in
    let below = any.2 in
    let inside : any.0 < n = omega arith in
    let is : any.1 ≡ any.0 = sym any.3 ∙ get_or-range_with_len 0 n any.0 any.1 inside ∙ zero-add any.0 in
    (any.0, inside, subst (λ (x : ℕ). test x ≡ true) is any.4)

passes_below : (test : ℕ → Bool) (n k : ℕ) → k < n → test k ≡ true → list_any test (range_with_len 0 n) ≡ true
passes_below test n k less holds =
    let long = length-range_with_len 0 n in
    list_any_at test (range_with_len 0 n) k k (omega arith) (ap test (get_or-range_with_len 0 n k k less ∙ zero-add k) ∙ holds)

abbrev has : List ℕ → ℕ → Bool
has xs k = list_any (λ t. t == k) xs

fails_in : (test : ℕ → Bool) (xs : List ℕ) (k : ℕ) → list_any test xs ≡ false → has xs k ≡ true → test k ≡ false
fails_in test [] k none some = absurd (cc)
fails_in test (x ∷ xs) k none some =
    let parts = or_parts (test x) (list_any test xs) none in
    elim (or_cases (x == k) (has xs k) some) [
      | inl same ↦ subst (λ (n : ℕ). test n ≡ false) (eqb-true x k same) parts.0
      | inr later ↦ fails_in test xs k parts.1 later
    ]

none_in : (test : ℕ → Bool) (xs : List ℕ) → ((k : ℕ) → has xs k ≡ true → test k ≡ false) → list_any test xs ≡ false
none_in test [] fails = refl
none_in test (x ∷ xs) fails =
    or_from (test x) (list_any test xs) (fails x (or_left (x == x) (has xs x) (eq-eqb x x refl)))
    (none_in test xs (λ k later. fails k (or_right (x == k) (has xs k) later)))

second_false : (x y : Bool) → x ≡ true → (x && y) ≡ false → y ≡ false
second_false true y h e = e
second_false false y h e = absurd (cc)

-- Exits.

is_its_end : (end : Option ℕ) (k : ℕ) → end ≡ Some k → is_end end k ≡ true
is_its_end end k is = subst (λ (o : Option ℕ). is_end o k ≡ true) (sym is) (eq-eqb k k refl)

end_is : (end : Option ℕ) (k : ℕ) → is_end end k ≡ true → end ≡ Some k
end_is None k h = absurd (cc)
end_is (Some j) k h = ap (λ (n : ℕ). Some n) (eqb-true j k h)

exits_by : (code : List Marked) (j k : ℕ) (taken : Bool) → exit_at code j taken ≡ Some k → exits_to code j k ≡ true
exits_by code j k false is = or_left (is_end (exit_at code j false) k) (is_end (exit_at code j true) k) (is_its_end (exit_at code j false) k is)
exits_by code j k true is = or_right (is_end (exit_at code j false) k) (is_end (exit_at code j true) k) (is_its_end (exit_at code j true) k is)

listed_there : (s : Judged) (task : ℕ) (end : Option ℕ) (k : ℕ) → is_listed s task end ≡ true → end ≡ Some k → has (targets_of s task) k ≡ true
listed_there s task end k holds is = subst (λ (o : Option ℕ). is_listed s task o ≡ true) is holds

abbrev IsOpen : Judged → (task k : ℕ) → Type 0
IsOpen s task k = (is_entry s k ≡ true) × (has (targets_of s task) k ≡ true)

open_may : (s : Judged) (task : ℕ) (end : Option ℕ) → ((k : ℕ) → end ≡ Some k → IsOpen s task k) → may_exit s task end ≡ true
open_may s task None fits = refl
open_may s task (Some k) fits =
    let is = fits k refl in and_from (is_entry s k) (has (targets_of s task) k) is.0 is.1

may_open : (s : Judged) (task : ℕ) (end : Option ℕ) (k : ℕ) → may_exit s task end ≡ true → end ≡ Some k → IsOpen s task k
may_open s task end k may is =
    and_parts (is_entry s k) (has (targets_of s task) k) (subst (λ (o : Option ℕ). may_exit s task o ≡ true) is may)

may_listed : (s : Judged) (task : ℕ) (end : Option ℕ) → may_exit s task end ≡ true → is_listed s task end ≡ true
may_listed s task None may = refl
may_listed s task (Some k) may = (and_parts (is_entry s k) (has (targets_of s task) k) may).1

-- What goes right at one instruction, in parts.
pub record Right (s : Judged) (code : List Marked) (task j : ℕ) : Type 0 where
  pub onward : may_exit s task (exit_at code j false) ≡ true
  pub taken : may_exit s task (exit_at code j true) ≡ true
  pub inside : stays_right code j ≡ true

right_parts : (s : Judged) (code : List Marked) (task j : ℕ) → goes_right s code task j ≡ true → Right s code task j
right_parts s code task j h =
    let onward = may_exit s task (exit_at code j false) in
    let taken = may_exit s task (exit_at code j true) in
    let parts = and_parts (onward && taken) (stays_right code j) h in
    let ends = and_parts onward taken parts.0 in
    record { onward = ends.0; taken = ends.1; inside = parts.1 }

right_from : (s : Judged) (code : List Marked) (task j : ℕ) → Right s code task j → goes_right s code task j ≡ true
right_from s code task j r =
    let onward = may_exit s task (exit_at code j false) in
    let taken = may_exit s task (exit_at code j true) in
    and_from (onward && taken) (stays_right code j) (and_from onward taken r.onward r.taken) r.inside

pub record Listed (s : Judged) (code : List Marked) (task j : ℕ) : Type 0 where
  pub onward : is_listed s task (exit_at code j false) ≡ true
  pub taken : is_listed s task (exit_at code j true) ≡ true
  pub inside : stays_right code j ≡ true

listed_parts : (s : Judged) (code : List Marked) (task j : ℕ) → is_right s code task j ≡ true → Listed s code task j
listed_parts s code task j h =
    let onward = is_listed s task (exit_at code j false) in
    let taken = is_listed s task (exit_at code j true) in
    let parts = and_parts (onward && taken) (stays_right code j) h in
    let ends = and_parts onward taken parts.0 in
    record { onward = ends.0; taken = ends.1; inside = parts.1 }

listed_from : (s : Judged) (code : List Marked) (task j : ℕ) → goes_right s code task j ≡ true → is_right s code task j ≡ true
listed_from s code task j h =
    let r = right_parts s code task j h in
    let onward = is_listed s task (exit_at code j false) in
    let taken = is_listed s task (exit_at code j true) in
    and_from (onward && taken) (stays_right code j)
    (and_from onward taken (may_listed s task (exit_at code j false) r.onward) (may_listed s task (exit_at code j true) r.taken)) r.inside

by_edge : (s : Judged) (code : List Marked) (task j : ℕ) (taken : Bool) → Listed s code task j → is_listed s task (exit_at code j taken) ≡ true
by_edge s code task j false l = l.onward
by_edge s code task j true l = l.taken

-- What is marked is what a path leads to.
module _ (s : Judged) (task i : ℕ) (code : List Marked) (marks : List Bool)
    (exact : (j : ℕ) → (is_marked marks j ≡ true) ↔ Reaches (with_code s.program code) i j) where
  abbrev AllGoRight : Type 0
  AllGoRight = (other j : ℕ) → comes_to s task i other ≡ true → Reaches (with_code s.program code) i j → goes_right s code other j ≡ true

  itself : comes_to s task i task ≡ true
  itself = or_left (task == task) (nat_lt task (length s.program.tasks) && is_some (mask_at (entries_of s task) i)) (eq-eqb task task refl)

  -- nothing is wrong, so an exit is right for each task that comes there
  open_for : some_wrong s code marks task ≡ false → some_target_wrong s code marks task i ≡ false
      → (other j k : ℕ) (taken : Bool) → comes_to s task i other ≡ true → is_marked marks j ≡ true → j < length code
      → is_listed s task (exit_at code j taken) ≡ true → exit_at code j taken ≡ Some k → IsOpen s other k
  open_for none no_target other j k taken comes marked less listed is =
      let own = listed_there s task (exit_at code j taken) k listed is in
      let wrong = fails_in (is_wrong_target s code marks task i) (targets_of s task) k no_target own in
      let exits = passes_below (λ n. is_marked marks n && exits_to code n k) (length code) j less
      (and_from (is_marked marks j) (exits_to code j k) marked (exits_by code j k taken is)) in
      let rest = or_parts (not (is_entry s k)) (some_lacks s task i k)
      (second_false (some_exits_to code marks k) (not (is_entry s k) || some_lacks s task i k) exits wrong) in
      (not-false (is_entry s k) rest.0, listed_by own rest.1)
    where
      listed_by : has (targets_of s task) k ≡ true → some_lacks s task i k ≡ false → has (targets_of s other) k ≡ true
      listed_by own all_have =
          elim (or_cases (other == task) (nat_lt other (length s.program.tasks) && is_some (mask_at (entries_of s other) i)) comes) [
            | inl same ↦ subst (λ (t : ℕ). has (targets_of s t) k ≡ true) (sym (eqb-true other task same)) own
            | inr reaches ↦
                let below = ltb-true other (length s.program.tasks)
                (and_parts (nat_lt other (length s.program.tasks)) (is_some (mask_at (entries_of s other) i)) reaches).0 in
                not-false (has (targets_of s other) k)
                (second_false (comes_to s task i other) (not (has (targets_of s other) k)) comes
                (fails_below (lacks s task i k) (length s.program.tasks) other all_have below))
          ]

  go_right : some_wrong s code marks task ≡ false → some_target_wrong s code marks task i ≡ false → AllGoRight
  go_right none no_target other j comes reaches =
      let marked = (exact j).1 reaches in
      let fine = not-false (is_right s code task j)
      (second_false (is_marked marks j) (not (is_right s code task j)) marked
      (fails_below (λ n. is_marked marks n && not (is_right s code task n)) (length code) j none reaches.within)) in
      let own = listed_parts s code task j fine in
      right_from s code other j (record {
        onward = open_may s other (exit_at code j false) (λ k is. open_for none no_target other j k false comes marked reaches.within own.onward is);
        taken = open_may s other (exit_at code j true) (λ k is. open_for none no_target other j k true comes marked reaches.within own.taken is);
        inside = own.inside;
      })

  none_wrong : AllGoRight → some_wrong s code marks task ≡ false
  none_wrong right = none_below (λ n. is_marked marks n && not (is_right s code task n)) (length code) (λ j less. elim (cases_Bool (is_marked marks j)) [
    | inl holds ↦ and_right (is_marked marks j) (not (is_right s code task j))
        (not_from_true (is_right s code task j) (listed_from s code task j (right task j itself ((exact j).0 holds))))
    | inr fails ↦ and_left (is_marked marks j) (not (is_right s code task j)) fails
  ])

  open_by : AllGoRight → (other j k : ℕ) → comes_to s task i other ≡ true → is_marked marks j ≡ true → exits_to code j k ≡ true → IsOpen s other k
  open_by right other j k comes marked exits =
      let r = right_parts s code other j (right other j comes ((exact j).0 marked)) in
      elim (or_cases (is_end (exit_at code j false) k) (is_end (exit_at code j true) k) exits) [
        | inl e ↦ may_open s other (exit_at code j false) k r.onward (end_is (exit_at code j false) k e)
        | inr e ↦ may_open s other (exit_at code j true) k r.taken (end_is (exit_at code j true) k e)
      ]

  no_target_wrong : AllGoRight → some_target_wrong s code marks task i ≡ false
  no_target_wrong right = none_in (is_wrong_target s code marks task i) (targets_of s task) (λ k listed. elim (cases_Bool (some_exits_to code marks k)) [
    | inr fails ↦ and_left (some_exits_to code marks k) (not (is_entry s k) || some_lacks s task i k) fails
    | inl holds ↦ and_right (some_exits_to code marks k) (not (is_entry s k) || some_lacks s task i k) (fine k holds)
  ])
    where
      fine : (k : ℕ) → some_exits_to code marks k ≡ true → (not (is_entry s k) || some_lacks s task i k) ≡ false
      fine k holds =
          let at = some_below (λ n. is_marked marks n && exits_to code n k) (length code) holds in
          let j = at.0 in
          let parts = and_parts (is_marked marks j) (exits_to code j k) at.2 in
          or_from (not (is_entry s k)) (some_lacks s task i k)
          (not_from_true (is_entry s k) (open_by right task j k itself parts.0 parts.1).0)
          (none_below (lacks s task i k) (length s.program.tasks) (λ other less. elim (cases_Bool (comes_to s task i other)) [
            | inr fails ↦ and_left (comes_to s task i other) (not (has (targets_of s other) k)) fails
            | inl comes ↦ and_right (comes_to s task i other) (not (has (targets_of s other) k))
                (not_from_true (has (targets_of s other) k) (open_by right other j k comes parts.0 parts.1).1)
          ]))

  right_exactly : (all_right s code marks task i ≡ true) ↔ AllGoRight
  right_exactly = (
    λ h.
        let parts = and_parts (not (some_wrong s code marks task)) (not (some_target_wrong s code marks task i)) h in
        go_right (not-true (some_wrong s code marks task) parts.0) (not-true (some_target_wrong s code marks task i) parts.1),
    λ right.
        and_from (not (some_wrong s code marks task)) (not (some_target_wrong s code marks task i))
        (not_from_false (some_wrong s code marks task) (none_wrong right)) (not_from_false (some_target_wrong s code marks task i) (no_target_wrong right)),
  )

pub needless_exactly : (s : Judged) (task i : ℕ) (code : List Marked) (marks : List Bool) (holds : Bool) → i < length s.program.code
    → code ≡ without_stop s.program.code i
    → ((j : ℕ) → (is_marked marks j ≡ true) ↔ Reaches (with_code s.program code) i j)
    → holds ≡ all_right s code marks task i → (holds ≡ true) ↔ IsNeedless s task i
needless_exactly s task i code marks holds less same exact is =
    let decides = right_exactly s task i code marks exact in (
      λ h. record {
        there = less;
        right = subst
            (λ (c : List Marked). (other j : ℕ) → comes_to s task i other ≡ true → Reaches (with_code s.program c) i j → goes_right s c other j ≡ true)
            same (decides.0 (sym is ∙ h));
      },
      λ needless. is ∙ decides.1 (subst
          (λ (c : List Marked). (other j : ℕ) → comes_to s task i other ≡ true → Reaches (with_code s.program c) i j → goes_right s c other j ≡ true)
          (sym same) needless.right),
    )
