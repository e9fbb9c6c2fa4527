-- no unit before this position has the serial number
use Rattle.std.proofs.Common.{◌≡◌, ℕ, ◌<◌, Some}
use Rattle.std.specs.Prelude.{slice_get}
use Rattle.machine_model.specs.Machine.{Active}
use Rattle.processor_steps.specs.Processors.{actives}
use Rattle.processor_steps.proofs.queue.Queue.position_with.Given as goal

abbrev pub invariant-loop-position : goal.invariant-loop-position
invariant-loop-position l = (k : ℕ) (u : Active) → k < l.position → slice_get (actives l.self) k ≡ Some u → u.serial ≡ l.serial → ⊥
