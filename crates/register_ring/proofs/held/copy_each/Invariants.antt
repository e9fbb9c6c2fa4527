use Rattle.std.specs.Prelude.{◌≡◌, ℕ, ◌-◌, ◌<◌, ◌≤◌, if◌then◌else◌, slice_index}
use Rattle.mips_instructions.specs.Words.{has}
use Rattle.register_ring.proofs.held.copy_each.Given as goal

-- the registers below have what the call promises, and the others what they had
abbrev pub invariant-loop-register : goal.invariant-loop-register
invariant-loop-register l = record {
  range : l.from ≤ 34;
  below : (r : ℕ) → r < l.from → slice_index l.to r ≡ (if has l.set r then slice_index l.words r else slice_index l.initial.to r);
  above : (r : ℕ) → l.from ≤ r → slice_index l.to r ≡ slice_index l.initial.to r;
}

abbrev pub decreases-loop-register : goal.decreases-loop-register
decreases-loop-register l = 34 - l.from
