-- Helper vocabulary of a search along edges: its marks and its work.
use Rattle.std.specs.Prelude.{◌≡◌, ℕ, ◌⊎◌, Bool, true, false, if◌then◌else◌, List, [], ◌∷◌, ◌++◌, length, Contains, slice_index_or, slice_set, Option, Some, None}

-- a search's mark of an index
abbrev pub is_marked : List Bool → ℕ → Bool
is_marked marks i = slice_index_or marks i false

-- the marks with one more, and the work, which takes an index that was not marked before
abbrev pub mark_of : Option ℕ → List Bool → List Bool
mark_of None marks = marks
mark_of (Some j) marks = slice_set marks j true

abbrev pub work_of : Option ℕ → List Bool → List ℕ → List ℕ
work_of None marks work = work
work_of (Some j) marks work = if is_marked marks j then work else work ++ j ∷ []

-- A search among the indices below a bound: what is marked is reached; and each index that a marked one leads to
-- is marked too, except where the marked one still waits in the work or is the one being looked at.
pub record Search (bound : ℕ) (Comes : ℕ → Type 0) (Leads : (from to : ℕ) → Type 0) (marks : List Bool) (work : List ℕ) (busy : Option ℕ) : Type 0 where
  pub sized : length marks ≡ bound
  pub sound : (i : ℕ) → is_marked marks i ≡ true → Comes i
  pub waiting : (i : ℕ) → Contains work i → is_marked marks i ≡ true
  pub closed : (i j : ℕ) → is_marked marks i ≡ true → Leads i j → (is_marked marks j ≡ true) ⊎ (Contains work i ⊎ (busy ≡ Some i))
