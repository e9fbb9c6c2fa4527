use Rattle.std.specs.Prelude.{◌≡◌, ℕ, take}
use Rattle.std.specs.List.{list_any}
use Rattle.mips_instructions.specs.Words.{has}
use Rattle.register_ring.proofs.port.Port.accum.Given as goal

-- the registers of the masks so far
abbrev pub invariant-loop-mask : goal.invariant-loop-mask
invariant-loop-mask l = (r : ℕ) → has l.accum r ≡ list_any (λ mask. has mask r) (take l.mask-index l.masks)
