-- A unit that lacks nothing for an instruction ahead of the head is refused nothing; and an event that
-- nothing refuses is answered Ok.
use Rattle.std.proofs.Common.{◌≡◌, ℕ, Bool, true, false, Option, Some, None, Ok, refl, ap, ◌∙◌}
use Rattle.std.specs.Prelude.{◌||◌, nat_eq, slice_get}
use Rattle.std.specs.Option.{option_or}
use Rattle.mips_instructions.specs.Instruction.{reg_a}
use Rattle.mips_plain.specs.Effect.{may_run_ahead}
use Rattle.task_descriptor.specs.Listing.{Listing}
use Rattle.task_descriptor.specs.declared.descriptor.Marked.{Marked}
use Rattle.machine_model.specs.Machine.{Active, State}
use Rattle.machine_model.specs.Refusals.{unless, for_some, for_none}
use Rattle.machine_model.specs.Unit.{instruction_at, operand, lacks, exec_refusal}
use Rattle.machine_model.specs.Answer.{refusal, is_running, ok_unless}
use Rattle.machine_model.specs.declared.event.Event.TheVariants.{Exec}
use Rattle.machine_model.specs.declared.event.Refused.{Refused}
use Rattle.machine_model.specs.declared.event.Refused.TheVariants as refused
use Rattle.machine_model.specs.declared.event.Standing.{Standing}
use Rattle.machine_model.specs.declared.event.Standing.TheVariants.{Running}

ready : (is_head may : Bool) → unless (false || may) refused.NotHead None ≡ None → unless (is_head || may) refused.NotHead None ≡ None
ready true may e = refl
ready false may e = e

with_registers : (is_head may : Bool) (lacking : Option ℕ) → for_none lacking refused.Waiting (unless (false || may) refused.NotHead None) ≡ None
    → for_none lacking refused.Waiting (unless (is_head || may) refused.NotHead None) ≡ None
with_registers is_head may (Some r) e = absurd (cc)
with_registers is_head may None e = ready is_head may e

-- what the instruction at a unit's place is refused by
abbrev at_place : (is_head : Bool) → Active → Option Marked → Option Refused
at_place is_head u o =
    for_some o refused.Stopped (λ m. for_none (lacks u m.op) refused.Waiting (unless (is_head || may_run_ahead m.op (operand u (reg_a m.op))) refused.NotHead None))

anywhere : (is_head : Bool) (u : Active) (o : Option Marked) → at_place false u o ≡ None → at_place is_head u o ≡ None
anywhere is_head u None e = absurd (cc)
anywhere is_head u (Some m) e = with_registers is_head (may_run_ahead m.op (operand u (reg_a m.op))) (lacks u m.op) e

pub ahead_allowed : (p : Listing) (units : ℕ) (s : State) (k : ℕ) (u : Active) → slice_get s.queue k ≡ Some u → exec_refusal p false u ≡ None → refusal p units s (Exec k) ≡ None
ahead_allowed p units s k u there none =
    ap (λ (o : Option Active). for_some o refused.NoSuch (exec_refusal p (nat_eq k 0))) there
    ∙ anywhere (nat_eq k 0) u (instruction_at p u.place) none

pub answered_ok : (o : Standing) (r : Option Refused) (room : Bool) → o ≡ Running → r ≡ None → room ≡ true
    → ok_unless (unless (is_running o) refused.Ended (option_or r (unless room refused.Full None))) ≡ Ok tt
answered_ok o r room runs none there =
    ap (λ (x : Standing). ok_unless (unless (is_running x) refused.Ended (option_or r (unless room refused.Full None)))) runs
    ∙ ap (λ (x : Option Refused). ok_unless (option_or x (unless room refused.Full None))) none
    ∙ ap (λ (x : Bool). ok_unless (unless x refused.Full None)) there
