-- Tasks from some on, from the last to the first: one more collides with one behind it if a set of those
-- behind has its entry or its name.
use Rattle.std.specs.Prelude.{ℕ, zero, suc, ◌≡◌, ◌<◌, ◌==◌, ◌||◌, not, nat_eq, Bool, true, false, List, [], ◌∷◌, length, drop}
use Rattle.std.specs.List.{list_any}
use Rattle.std.specs.Str.{bytes_eq}
use Rattle.std.proofs.Common.{refl, sym, ap, ◌∙◌, cond, drop-cons, get_or}
use Rattle.std.proofs.lemmas.Bool.Decides.{same_from_decides, Decides-eqb}
use Rattle.std.proofs.lemmas.Slice.Eq.{bytes_eq-Decides}
use Rattle.task_descriptor.specs.Listing.{collide, has_duplicate}
use Rattle.task_descriptor.specs.declared.descriptor.Descriptor.{Descriptor}

or_true : (a : Bool) → (a || true) ≡ true
or_true true = refl
or_true false = refl

or_swap : (a b c d : Bool) → ((a || b) || (c || d)) ≡ ((a || c) || (b || d))
or_swap true b c d = refl
or_swap false true true d = refl
or_swap false true false d = refl
or_swap false false c d = refl

or_is_cond : (a b : Bool) → cond a true b ≡ (a || b)
or_is_cond true b = refl
or_is_cond false b = refl

pub not_false : (a : Bool) → false ≡ not a → a ≡ true
not_false true e = refl
not_false false e = e

pub not_true : (a : Bool) → true ≡ not a → a ≡ false
not_true true e = e
not_true false e = refl

pub number_flip : (m n : ℕ) → nat_eq m n ≡ nat_eq n m
number_flip m n =
    same_from_decides _ (nat_eq n m) (Decides-eqb m n) (λ e. sym ((Decides-eqb n m).0 e), λ e. (Decides-eqb n m).1 (sym e))

pub bytes_flip : (xs ys : List ℕ) → bytes_eq xs ys ≡ bytes_eq ys xs
bytes_flip xs ys =
    same_from_decides _ (bytes_eq ys xs) (bytes_eq-Decides xs ys) (λ e. sym ((bytes_eq-Decides ys xs).0 e), λ e. (bytes_eq-Decides ys xs).1 (sym e))

any_or : (p q : Descriptor → Bool) (ts : List Descriptor) → list_any (λ t. p t || q t) ts ≡ (list_any p ts || list_any q ts)
any_or p q [] = refl
any_or p q (t ∷ ts) =
    ap (λ b. (p t || q t) || b) (any_or p q ts) ∙ or_swap (p t) (q t) (list_any p ts) (list_any q ts)

-- a test of a set with one key more is that of the tasks with one more
pub set_more : (found held : Bool) (p : Descriptor → Bool) (t : Descriptor) (ts : List Descriptor)
    → found ≡ p t → held ≡ list_any p ts → cond found true held ≡ list_any p (t ∷ ts)
set_more found held p t ts is_found is_held =
    or_is_cond found held ∙ (λ i. is_found i || is_held i)

-- the tasks from the k-th on are the k-th and those behind it
pub from_the : (tasks : List Descriptor) (k : ℕ) (task : Descriptor) → k < length tasks → task ≡ get_or tasks k task
    → drop k tasks ≡ task ∷ drop (suc k) tasks
from_the tasks k task less is =
    drop-cons tasks k task less ∙ ap (λ (t : Descriptor). t ∷ drop (suc k) tasks) (sym is)

abbrev pub same_entry : Descriptor → List Descriptor → Bool
same_entry task rest = list_any (λ t. task.entry == t.entry) rest

abbrev pub same_name : Descriptor → List Descriptor → Bool
same_name task rest = list_any (λ t. bytes_eq task.name t.name) rest

one_more : (task : Descriptor) (rest : List Descriptor)
    → has_duplicate (task ∷ rest) ≡ ((same_entry task rest || same_name task rest) || has_duplicate rest)
one_more task rest =
    ap (λ b. b || has_duplicate rest) (any_or (λ t. task.entry == t.entry) (λ t. bytes_eq task.name t.name) rest)

pub apart_still : (task : Descriptor) (rest : List Descriptor)
    → same_entry task rest ≡ false → same_name task rest ≡ false → has_duplicate rest ≡ false → has_duplicate (task ∷ rest) ≡ false
apart_still task rest no_entry no_name apart =
    one_more task rest ∙ (λ i. (no_entry i || no_name i) || apart i)

-- a duplicate among the last tasks is one of all
repeated_behind : (k : ℕ) (tasks : List Descriptor) → has_duplicate (drop k tasks) ≡ true → has_duplicate tasks ≡ true
repeated_behind zero tasks e = e
repeated_behind (suc k) [] e = e
repeated_behind (suc k) (t ∷ ts) e =
    ap (λ b. list_any (collide t) ts || b) (repeated_behind k ts e) ∙ or_true (list_any (collide t) ts)

pub entry_again : (tasks : List Descriptor) (k : ℕ) (task : Descriptor) → drop k tasks ≡ task ∷ drop (suc k) tasks
    → same_entry task (drop (suc k) tasks) ≡ true → has_duplicate tasks ≡ true
entry_again tasks k task cons found =
    let rest = drop (suc k) tasks in
    repeated_behind k tasks (ap has_duplicate cons ∙ one_more task rest ∙ ap (λ b. (b || same_name task rest) || has_duplicate rest) found)

pub name_again : (tasks : List Descriptor) (k : ℕ) (task : Descriptor) → drop k tasks ≡ task ∷ drop (suc k) tasks
    → same_name task (drop (suc k) tasks) ≡ true → has_duplicate tasks ≡ true
name_again tasks k task cons found =
    let rest = drop (suc k) tasks in
    repeated_behind k tasks (ap has_duplicate cons ∙ one_more task rest
    ∙ (ap (λ b. (same_entry task rest || b) || has_duplicate rest) found
    ∙ ap (λ b. b || has_duplicate rest) (or_true (same_entry task rest))))
