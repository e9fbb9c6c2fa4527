-- Where the labels of a canonical text stand: each task's at its entry.
use Rattle.canonical_text.proofs.Imports.{◌≡◌, ℕ, zero, suc, ◌+◌, ◌<◌, ◌≤◌, List, [], ◌∷◌, ◌++◌, Bool, true, false, Option, Some, None, length, arith, refl, ap, sym, subst, ◌∙◌, inl, inr, ◌==◌, find, slice_get, list_any, bytes_eq, cases_eq, cases_lt, cases_Bool, false≢true, or_parts, cond-true, cond-false, eqb-true, eq-eqb, false_from_ne_true, bytes_eq-Decides, collide, has_duplicate, Descriptor, Marked, Names, lookup, Symbol}
use Rattle.program_statements.specs.declared.statement.Section.TheVariants as section

-- Tasks have entries and names of their own.

any_none : {X : Type 0} (test : X → Bool) (xs : List X) (i : ℕ) (x : X) → list_any test xs ≡ false → slice_get xs i ≡ Some x → test x ≡ false
any_none test [] i x none at = absurd cc
any_none test (y ∷ ys) zero x none at = let e : y ≡ x = cc in ap test (sym e) ∙ (or_parts (test y) (list_any test ys) none).0
any_none test (y ∷ ys) (suc i) x none at = any_none test ys i x (or_parts (test y) (list_any test ys) none).1 at

pub swap_bytes : (a b : List ℕ) → bytes_eq a b ≡ false → bytes_eq b a ≡ false
swap_bytes a b h =
    false_from_ne_true (bytes_eq b a) (λ e. false≢true (sym h ∙ (bytes_eq-Decides a b).1 (sym ((bytes_eq-Decides b a).0 e))))

-- tasks with different entries have different names
pub apart : (tasks : List Descriptor) → has_duplicate tasks ≡ false → (j k : ℕ) (t u : Descriptor)
    → slice_get tasks j ≡ Some t → slice_get tasks k ≡ Some u → (t.entry ≡ u.entry → ⊥) → bytes_eq t.name u.name ≡ false
apart [] h j k t u a b ne = absurd cc
apart (x ∷ xs) h zero zero t u a b ne =
    let e : t ≡ u = cc in absurd (ne (ap (λ (d : Descriptor). d.entry) e))
apart (x ∷ xs) h zero (suc k) t u a b ne =
    let e : x ≡ t = cc in
    let none = any_none (collide x) xs k u (or_parts (list_any (collide x) xs) (has_duplicate xs) h).0 b in
    ap (λ (d : Descriptor). bytes_eq d.name u.name) (sym e) ∙ (or_parts (x.entry == u.entry) (bytes_eq x.name u.name) none).1
apart (x ∷ xs) h (suc j) zero t u a b ne =
    let e : x ≡ u = cc in
    let none = any_none (collide x) xs j t (or_parts (list_any (collide x) xs) (has_duplicate xs) h).0 a in
    ap (λ (d : Descriptor). bytes_eq t.name d.name) (sym e) ∙ swap_bytes x.name t.name (or_parts (x.entry == t.entry) (bytes_eq x.name t.name) none).1
apart (x ∷ xs) h (suc j) (suc k) t u a b ne =
    apart xs (or_parts (list_any (collide x) xs) (has_duplicate xs) h).1 j k t u a b ne

-- a task is the one that is found at its entry
pub found_at_entry : (tasks : List Descriptor) → has_duplicate tasks ≡ false → (k : ℕ) (t : Descriptor) → slice_get tasks k ≡ Some t
    → find (λ u. u.entry == t.entry) tasks ≡ Some t
found_at_entry [] h k t at = absurd cc
found_at_entry (x ∷ xs) h zero t at =
    let e : x ≡ t = cc in
    cond-true (x.entry == t.entry) (Some x) (find (λ u. u.entry == t.entry) xs) (eq-eqb x.entry t.entry (ap (λ (d : Descriptor). d.entry) e)) ∙ at
found_at_entry (x ∷ xs) h (suc k) t at =
    let none = any_none (collide x) xs k t (or_parts (list_any (collide x) xs) (has_duplicate xs) h).0 at in
    cond-false (x.entry == t.entry) (Some x) (find (λ u. u.entry == t.entry) xs) (or_parts (x.entry == t.entry) (bytes_eq x.name t.name) none).0
    ∙ found_at_entry xs (or_parts (list_any (collide x) xs) (has_duplicate xs) h).1 k t at

-- what is found is there
pub record IsFound {X : Type 0} (test : X → Bool) (xs : List X) (x : X) : Type 0 where
  pub place : ℕ
  pub there : slice_get xs place ≡ Some x
  pub passes : test x ≡ true

pub found : {X : Type 0} (test : X → Bool) (xs : List X) (x : X) → find test xs ≡ Some x → IsFound test xs x
found test [] x h = absurd cc
found test (y ∷ ys) x h = elim (cases_Bool (test y)) [
  | inl passes ↦
      let there : Some y ≡ Some x = sym (cond-true (test y) (Some y) (find test ys) passes) ∙ h in
      let same : y ≡ x = cc in
      record { place = 0; there = there; passes = ap test (sym same) ∙ passes }
  | inr fails ↦
      let r = found test ys x (sym (cond-false (test y) (Some y) (find test ys) fails) ∙ h) in
      record { place = suc r.place; there = r.there; passes = r.passes }
]

-- Labels.

abbrev pub code_symbol : ℕ → Symbol
code_symbol index = record { section = section.Text; offset = index }

abbrev pub label_rows : ℕ → Option Descriptor → Names
label_rows index None = []
label_rows index (Some task) = (task.name, code_symbol index) ∷ []

-- the labels before the instructions from an index on
abbrev pub rows : List Descriptor → ℕ → List Marked → Names
rows tasks index [] = []
rows tasks index (m ∷ code) = label_rows index (find (λ t. t.entry == index) tasks) ++ rows tasks (index + 1) code

pub lookup-append : (a b : Names) (name : List ℕ) → lookup a name ≡ None → lookup (a ++ b) name ≡ lookup b name
lookup-append [] b name h = refl
lookup-append (row ∷ a) b name h = elim (cases_Bool (bytes_eq name row.0)) [
  | inl passes ↦ let e : Some row.1 ≡ None = sym (cond-true (bytes_eq name row.0) (Some row.1) (lookup a name) passes) ∙ h in absurd cc
  | inr fails ↦
      cond-false (bytes_eq name row.0) (Some row.1) (lookup (a ++ b) name) fails
      ∙ lookup-append a b name (sym (cond-false (bytes_eq name row.0) (Some row.1) (lookup a name) fails) ∙ h)
]

pub same_bytes : (name : List ℕ) → bytes_eq name name ≡ true
same_bytes name = (bytes_eq-Decides name name).1 refl

-- no label has the name of a task with another entry
pub other_label : (tasks : List Descriptor) → has_duplicate tasks ≡ false → (k : ℕ) (t : Descriptor) → slice_get tasks k ≡ Some t
    → (index : ℕ) → (index ≡ t.entry → ⊥) → (at : Option Descriptor) → find (λ u. u.entry == index) tasks ≡ at → lookup (label_rows index at) t.name ≡ None
other_label tasks h k t there index other None is = refl
other_label tasks h k t there index other (Some u) is =
    let f = found (λ u. u.entry == index) tasks u is in
    cond-false (bytes_eq t.name u.name) (Some (code_symbol index)) None
    (apart tasks h k f.place t u there f.there (λ e. other (sym (e ∙ eqb-true u.entry index f.passes))))

strict : (a b : ℕ) → a ≤ b → (a ≡ b → ⊥) → a < b
strict a b h ne = elim (cases_lt a b) [ inl below ↦ below | inr above ↦ absurd (ne (omega arith)) ]

pub lookup_rows : (tasks : List Descriptor) → has_duplicate tasks ≡ false → (k : ℕ) (t : Descriptor) → slice_get tasks k ≡ Some t
    → (index : ℕ) (code : List Marked) → index ≤ t.entry → t.entry < index + length code
    → lookup (rows tasks index code) t.name ≡ Some (code_symbol t.entry)
lookup_rows tasks h k t there index [] low high = absurd (omega arith)
lookup_rows tasks h k t there index (m ∷ code) low high = elim (cases_eq index t.entry) [
  | inl same ↦
      let at : find (λ u. u.entry == index) tasks ≡ Some t = subst (λ i. find (λ u. u.entry == i) tasks ≡ Some t) (sym same) (found_at_entry tasks h k t there) in
      ap (λ (o : Option Descriptor). lookup (label_rows index o ++ rows tasks (index + 1) code) t.name) at
      ∙ cond-true (bytes_eq t.name t.name) (Some (code_symbol index)) (lookup (rows tasks (index + 1) code) t.name) (same_bytes t.name)
      ∙ ap (λ i. Some (code_symbol i)) same
  | inr other ↦
      let above : index < t.entry = strict index t.entry low other in
      lookup-append (label_rows index (find (λ u. u.entry == index) tasks)) (rows tasks (index + 1) code) t.name
      (other_label tasks h k t there index other (find (λ u. u.entry == index) tasks) refl)
      ∙ lookup_rows tasks h k t there (index + 1) code (omega arith) (omega arith)
]
