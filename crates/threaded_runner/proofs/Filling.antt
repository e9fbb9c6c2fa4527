-- A slot that is filled is not empty.
use Rattle.threaded_runner.proofs.Imports.{◌≡◌, Option, Some, None, IsSomeAnd}

pub filled : {A : Type 0} (P : A → Type 0) (slot : Option A) → IsSomeAnd slot P → slot ≡ None → ⊥
filled P None h e = h
filled P (Some x) h e = absurd (cc)
