-- Bursts: instructions of one unit that need nothing but its own registers and read-only data, so that
-- they may be made away from the machine and handed in later.
use Rattle.std.specs.Prelude.{◌≡◌, ℕ, zero, suc, Bool, true, false, Some}
use Rattle.mips_instructions.specs.Instruction.{dests}
use Rattle.mips_plain.specs.Effect.{may_run_ahead}
use Rattle.task_descriptor.specs.Listing.{Listing}
use Rattle.task_descriptor.specs.declared.descriptor.Marked.{Marked}
use Rattle.task_graph.specs.Edges.{Edge, sends}
use Rattle.machine_model.specs.Machine.{Words, Active}
use Rattle.machine_model.specs.Unit.{IsNext, after_exec}
use Rattle.machine_model.specs.declared.event.Spot.TheVariants.{Inside}

-- data memory does not matter to such an instruction
abbrev pub no_memory : ℕ → ℕ
no_memory offset = 0

-- one Exec of a unit by itself
pub record StepsAlone (p : Listing) (u u' : Active) : Type 0 where
  pub index : ℕ
  pub at : Marked
  pub a : ℕ
  pub b : ℕ
  pub next : IsNext p u index at a b
  pub may_run_ahead : may_run_ahead at.op a ≡ true
  pub is : u' ≡ after_exec p u at index a b no_memory

-- u' is u after n such steps
abbrev pub Burst : Listing → (u : Active) → (n : ℕ) → (u' : Active) → Type 0
Burst p u zero u' = u' ≡ u
Burst p u (suc n) u' = (mid : Active) × Burst p u n mid × StepsAlone p mid u'

-- the pairs of one set of pairs are all in another
abbrev pub AllIn : Words → Words → Type 0
AllIn few many = (r word : ℕ) → few r ≡ Some word → many r ≡ Some word

-- the unit with these words arrived
abbrev pub with_arrived : Active → Words → Active
with_arrived u arrived = record u { arrived = arrived }

-- What keeps a sent register as it was sent: a mask for each index, of the registers that may still be
-- written from there, as a certificate gives it.

-- the mask of an index holds what its instruction writes and what the masks of its inner successors
-- hold, and none of these holds what the instruction sends
pub record MasksFit (p : Listing) (mask : ℕ → ℕ → Bool) (i : ℕ) (m : Marked) : Type 0 where
  pub holds_written : (r : ℕ) → dests m.op r ≡ true → mask i r ≡ true
  pub holds_later : (j r : ℕ) → Edge p false i j → mask j r ≡ true → mask i r ≡ true
  pub sends_last : (j r : ℕ) → Edge p false i j → sends m r ≡ true → mask j r ≡ false

-- no register with a sent pair is in the mask of the unit's place
abbrev pub SentIsLast : (mask : ℕ → ℕ → Bool) → Active → Type 0
SentIsLast mask u = (i r word : ℕ) → u.place ≡ Inside i → u.sent r ≡ Some word → mask i r ≡ false
