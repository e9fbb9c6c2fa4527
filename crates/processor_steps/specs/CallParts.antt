-- What the parts of a call on a processor do: definitions for private functions only.
use Rattle.std.specs.Prelude.{◌≡◌, ℕ, ◌⊎◌, List, slice_get, slice_set, true, false, Option, Some, None, Result, OnOk, OnErr}
use Rattle.std.specs.Result.{result_err}
use Rattle.task_descriptor.specs.Listing.{Listing}
use Rattle.machine_model.specs.Machine.{Active}
use Rattle.machine_model.specs.Unit.{exec_refusal}
use Rattle.machine_model.specs.Answer.{after, later_refusal}
use Rattle.machine_model.specs.Burst.{StepsAlone}
use Rattle.machine_model.specs.declared.event.Event.{Event}
use Rattle.machine_model.specs.declared.event.Refused.{Refused}
use Rattle.machine_model.specs.declared.event.Refused.TheVariants as refused
use Rattle.unit_core.specs.UnitStep.{StepsAtHead}
use Rattle.unit_core.specs.Worlds.{WorldView}
use Rattle.processor_steps.specs.Processors.{ProcessorView, state_of, Keeps}

-- the head executes one instruction
pub record HeadStep (p : Listing) (us us' : List Active) (w w' : WorldView) : Type 0 where
  pub unit : Active
  pub is_unit : slice_get us 0 ≡ Some unit
  pub may : exec_refusal p true unit ≡ None
  pub after : Active
  pub step : StepsAtHead p unit after w w'
  pub is : us' ≡ slice_set us 0 after

-- the unit at a position executes one instruction that needs nothing but registers and read-only data
pub record AheadStep (p : Listing) (k : ℕ) (us us' : List Active) : Type 0 where
  pub unit : Active
  pub is_unit : slice_get us k ≡ Some unit
  pub may : exec_refusal p false unit ≡ None
  pub after : Active
  pub step : StepsAlone p unit after
  pub is : us' ≡ slice_set us k after

-- the refusal holds, or there is none and memory is lacking
abbrev pub IsRefusedBy : Refused → Option Refused → Type 0
IsRefusedBy why refusal = (refusal ≡ Some why) ⊎ ((why ≡ refused.OutOfMemory) × (refusal ≡ None))

-- a call on a processor that takes no memory returns exactly what refuses the event, and leaves what
-- the event leaves
pub record Does (p : Listing) (old : ProcessorView) (n : ℕ) (e : Event) (result : Result (Unit {0}) Refused) (new : ProcessorView) : Type 0 where
  pub refused : result_err result ≡ later_refusal p old.queue.capacity (state_of old) n e
  pub state : OnOk result (state_of new ≡ after p (state_of old) e)
  pub kept : Keeps old new
  pub err : OnErr result (new ≡ old)
