-- What an event changed, by what was foreseen of it, and by the state s' after it.
use Rattle.std.specs.Prelude.{◌≡◌, ℕ, List, [], ◌∷◌, ◌++◌, Bool, not, ◌&&◌, slice_get, is_some, unwrap_or, Option, Some, None}
use Rattle.mips_instructions.specs.Instruction.{dests, reg_a, reg_b}
use Rattle.mips_instructions.specs.Words.{has}
use Rattle.mips_instructions.specs.declared.instruction.Op.{Op}
use Rattle.mips_plain.specs.MemoryMap.{byte_of}
use Rattle.task_descriptor.specs.Listing.{Listing}
use Rattle.machine_model.specs.Machine.{Active, State}
use Rattle.machine_model.specs.Answer.{index_of_place, operand}
use Rattle.event_trace.specs.declared.change.Change.{Change}
use Rattle.event_trace.specs.declared.change.Change.TheVariants.{AtUnit, Wrote, Sent, Ended}
use Rattle.event_trace.specs.declared.unit_change.UnitChange.TheVariants.{Executed}
use Rattle.event_trace.specs.declared.foreseen.Execution.{Execution}
use Rattle.event_trace.specs.declared.foreseen.Foreseen.{Foreseen}
use Rattle.event_trace.specs.declared.foreseen.Foreseen.TheVariants.{Begins, Executes, Takes, Sends, Retires, Known, Ends}
use Rattle.event_trace.specs.Changes.{arrived, became_head, began, drained, for_registers, outside, stands_at, unless_ended}

-- what the unit at position k has before it executes an instruction
pub record IsOf (k : ℕ) (u : Active) (op : Op) (x : Execution) : Type 0 where
  pub position : x.position ≡ k
  pub task : x.task ≡ u.task
  pub index : x.index ≡ index_of_place u.place
  pub instruction : x.op ≡ op
  pub first : x.a ≡ operand u (reg_a op)
  pub second : x.b ≡ operand u (reg_b op)
  pub sent : (r : ℕ) → has x.sent r ≡ is_some (u.sent r)

-- the registers that a unit has sent now, beyond those that it had sent before
abbrev pub sent_beyond : (before : ℕ) → (v : Active) → ℕ → Bool
sent_beyond before v r = is_some (v.sent r) && not (has before r)

-- what an instruction did to its unit, which is v now
abbrev pub effects_of : Listing → State → Execution → (v : Active) → List Change
effects_of p s' x v =
    outside x.op x.a x.b (byte_of p.fixed) s'.memory
    ++ (for_registers (dests x.op) (λ r. Wrote r (operand v r))
    ++ (for_registers (sent_beyond x.sent v) (λ r. Sent r (unwrap_or (v.sent r) 0))
    ++ stands_at v.place ∷ []))

abbrev pub executed_by : Listing → State → Execution → Option Active → List Change
executed_by p s' x None = []
executed_by p s' x (Some v) = AtUnit x.position x.task (Executed x.index) ∷ unless_ended s'.outcome (effects_of p s' x v)

abbrev pub realized : Listing → Foreseen → State → List Change
realized p (Begins k) s' = began k (slice_get s'.queue k)
realized p (Executes x) s' = executed_by p s' x (slice_get s'.queue x.position)
realized p (Takes k r) s' = arrived k r (slice_get s'.queue k)
realized p (Sends k r) s' = drained k r (slice_get s'.queue k)
realized p (Retires changes before) s' = changes.items ++ became_head (has before) (slice_get s'.queue 0)
realized p (Known changes) s' = changes.items
realized p Ends s' = Ended s'.outcome ∷ []
