use Rattle.std.proofs.Common.{◌≡◌, ℕ, ◌<◌, true, slice_index}
use Rattle.register_ring.proofs.held.are_same.Given as goal

-- where all that was looked at is the same, the words below are
abbrev pub invariant-loop-index : goal.invariant-loop-index
invariant-loop-index l = l.same ≡ true → (r : ℕ) → r < l.index → slice_index l.words r ≡ slice_index l.others r
