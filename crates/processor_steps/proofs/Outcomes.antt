-- What a call answered, taken apart where one answer is out of the question.
use Rattle.std.proofs.Common.{◌≡◌, ℕ, Bool, List, Option, Some, None, Result, Ok, Err, ◌⊎◌, inl, inr, sym, ap, ◌∙◌}
use Rattle.std.specs.Prelude.{MatchResult, IsSome, slice_get}
use Rattle.machine_model.specs.Refusals.{for_some}
use Rattle.machine_model.specs.declared.event.Refused.{Refused}
use Rattle.machine_model.specs.declared.event.Refused.TheVariants as refused
use Rattle.unit_core.specs.declared.wait.Wait.{Wait}
use Rattle.unit_core.specs.declared.wait.Wait.TheVariants as wait
use Rattle.processor_steps.specs.CallParts.{IsRefusedBy}
use Rattle.task_descriptor.specs.Listing.{Listing}
use Rattle.machine_model.specs.Machine.{Active}
use Rattle.machine_model.specs.Unit.{put, Sends, exec_refusal, drain_refusal}
use Rattle.register_ring.specs.declared.port.AlreadyThere.{AlreadyThere}
use Rattle.unit_core.specs.UnitStep.{refused_by, refused_drain}
use Rattle.unit_core.specs.declared.wait.DrainFault.{DrainFault}

-- a register that has not arrived arrives
pub arrived_ok : (o : Result (Unit {0}) AlreadyThere) (u u' : Active) (r word : ℕ) (Rest : Type 0) → MatchResult o (λ done. (u.arrived r ≡ None) × (u' ≡ record u { arrived = put r word u.arrived })) (λ fault. IsSome (u.arrived r) × Rest) → u.arrived r ≡ None → u' ≡ record u { arrived = put r word u.arrived }
arrived_ok (Ok done) u u' r word Rest h missing = h.1
arrived_ok (Err fault) u u' r word Rest h missing = absurd (let there : IsSome (u.arrived r) = h.0 in cc)

-- a unit that may send sends
pub sent_ok : (o : Result (Unit {0}) DrainFault) (p : Listing) (u u' : Active) (r : ℕ) (Rest : Type 0) → MatchResult o (λ done. (drain_refusal p u r ≡ None) × Sends p u r u') (λ fault. (drain_refusal p u r ≡ Some (refused_drain r fault)) × Rest) → drain_refusal p u r ≡ None → Sends p u r u'
sent_ok (Ok done) p u u' r Rest h may = h.1
sent_ok (Err fault) p u u' r Rest h may = absurd (let e : drain_refusal p u r ≡ Some (refused_drain r fault) = h.0 in cc)

-- what refuses the Exec of the unit that is at a position
pub refusal_at : (p : Listing) (head : Bool) (us : List Active) (k : ℕ) (x : Active) (o : Option Refused) → slice_get us k ≡ Some x → exec_refusal p head x ≡ o → for_some (slice_get us k) refused.NoSuch (exec_refusal p head) ≡ o
refusal_at p head us k x o there is =
    ap (λ (u : Option Active). for_some u refused.NoSuch (exec_refusal p head)) there ∙ is

pub refused_at : (p : Listing) (head : Bool) (us : List Active) (k : ℕ) (x : Active) (why : Wait) (r : Refused) → slice_get us k ≡ Some x → r ≡ refused_by why
    → (exec_refusal p head x ≡ Some (refused_by why)) ⊎ ((why ≡ wait.OutOfMemory) × (exec_refusal p head x ≡ None)) → IsRefusedBy r (for_some (slice_get us k) refused.NoSuch (exec_refusal p head))
refused_at p head us k x why r there is (inl waits) = inl (refusal_at p head us k x (Some (refused_by why)) there waits ∙ ap Some (sym is))
refused_at p head us k x why r there is (inr memory) = inr (is ∙ ap refused_by memory.0, refusal_at p head us k x None there memory.1)
