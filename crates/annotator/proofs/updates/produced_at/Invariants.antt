use Rattle.annotator.proofs.Imports.{◌≡◌, ◌↔◌, true, ℕ, take, has, indices_of, ProducedAt}
use Rattle.annotator.proofs.updates.produced_at.Given as goal

abbrev pub invariant-loop-index : goal.invariant-loop-index
invariant-loop-index l = (r : ℕ) → (has l.set r ≡ true) ↔ ProducedAt l.code (indices_of (take l.index-index l.list)) r
