-- What is foreseen of an Exec comes true.
use Rattle.std.proofs.Common.{◌≡◌, ℕ, [], ◌∷◌, ◌++◌, Option, Some, None, slice_get, refl, sym, ap, ◌∙◌}
use Rattle.std.specs.Prelude.{◌&&◌, not, is_some, unwrap_or}
use Rattle.mips_instructions.specs.Instruction.{dests}
use Rattle.mips_plain.specs.MemoryMap.{byte_of}
use Rattle.task_descriptor.specs.Listing.{Listing}
use Rattle.task_descriptor.specs.declared.descriptor.Marked.{Marked}
use Rattle.machine_model.specs.Machine.{Active, State}
use Rattle.machine_model.specs.Answer.{instruction_at, operand}
use Rattle.event_trace.specs.declared.change.Change.TheVariants.{AtUnit, Wrote, Sent}
use Rattle.event_trace.specs.declared.unit_change.UnitChange.TheVariants.{Executed}
use Rattle.event_trace.specs.declared.foreseen.Execution.{Execution}
use Rattle.event_trace.specs.Changes.{executed, execution, for_registers, outside, stands_at, unless_ended}
use Rattle.event_trace.specs.Foresight.{IsOf, executed_by}

executed_alike : (p : Listing) (s : State) (k : ℕ) (u : Active) (m : Marked) (x : Execution) (then : Option Active) → IsOf k u m.op x → instruction_at p u.place ≡ Some m
    → executed_by p s x then ≡ executed p s k (Some u) then
executed_alike p s k u m x None of there = refl
executed_alike p s k u m x (Some v) of there =
    (λ j. AtUnit (of.position j) (of.task j) (Executed (of.index j))
    ∷ unless_ended s.outcome (outside (of.instruction j) (of.first j) (of.second j) (byte_of p.fixed) s.memory
    ++ (for_registers (dests (of.instruction j)) (λ r. Wrote r (operand v r))
    ++ (for_registers (λ r. is_some (v.sent r) && not (of.sent r j)) (λ r. Sent r (unwrap_or (v.sent r) 0))
    ++ stands_at v.place ∷ []))))
    ∙ ap (λ (o : Option Marked). execution p s k u v o) (sym there)

-- an Exec of a unit that stands before an instruction
pub foretold : (p : Listing) (s s' : State) (k : ℕ) (u : Active) (m : Marked) (x : Execution) → Some u ≡ slice_get s.queue k → IsOf k u m.op x → instruction_at p u.place ≡ Some m
    → executed_by p s' x (slice_get s'.queue x.position) ≡ executed p s' k (slice_get s.queue k) (slice_get s'.queue k)
foretold p s s' k u m x unit of there =
    ap (λ (n : ℕ). executed_by p s' x (slice_get s'.queue n)) of.position
    ∙ executed_alike p s' k u m x (slice_get s'.queue k) of there
    ∙ ap (λ (o : Option Active). executed p s' k o (slice_get s'.queue k)) unit

-- one where no unit stands
pub foretold_nowhere : (p : Listing) (s s' : State) (k : ℕ) → slice_get s.queue k ≡ None → [] ≡ executed p s' k (slice_get s.queue k) (slice_get s'.queue k)
foretold_nowhere p s s' k none = ap (λ (o : Option Active). executed p s' k o (slice_get s'.queue k)) (sym none)

nothing_executed : (p : Listing) (s : State) (k : ℕ) (u : Active) (then : Option Active) → instruction_at p u.place ≡ None → [] ≡ executed p s k (Some u) then
nothing_executed p s k u None none = refl
nothing_executed p s k u (Some v) none = ap (λ (o : Option Marked). execution p s k u v o) (sym none)

-- one of a unit that has stopped
pub foretold_stopped : (p : Listing) (s s' : State) (k : ℕ) (u : Active) → Some u ≡ slice_get s.queue k → instruction_at p u.place ≡ None
    → [] ≡ executed p s' k (slice_get s.queue k) (slice_get s'.queue k)
foretold_stopped p s s' k u unit none =
    nothing_executed p s' k u (slice_get s'.queue k) none ∙ ap (λ (o : Option Active). executed p s' k o (slice_get s'.queue k)) unit
