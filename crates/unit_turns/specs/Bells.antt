-- Who is rung for.
use Rattle.std.specs.Prelude.{◌≡◌, ℕ, List, Bool, true, slice_get, Some}

-- the bell of each worker that is called is rung; `is_rung` says so of a bell
abbrev pub RingsFor : {B : Type 0} → (is_rung : B → Type 0) → (called : List Bool) → (bells : List B) → Type 0
RingsFor {B} is_rung called bells =
    (worker : ℕ) (bell : B) → slice_get called worker ≡ Some true → slice_get bells worker ≡ Some bell → is_rung bell
