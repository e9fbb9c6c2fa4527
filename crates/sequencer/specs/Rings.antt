-- Which unit of a machine's ring an event belongs to.
use Rattle.std.specs.Prelude.{◌≡◌, ℕ, ◌<◌, List, length, slice_get, Some}
use Rattle.machine_model.specs.Machine.{Active}
use Rattle.machine_model.specs.HeadEvent.{position_of, unit_of}
use Rattle.machine_model.specs.declared.event.Event.{Event}
use Rattle.machine_model.specs.declared.event.Event.TheVariants.{Assign}
use Rattle.sequencer.specs.Machines.{MachineView, state, units_of}

abbrev pub unit_for : MachineView → Event → ℕ
unit_for m e = unit_of (units_of m) (length (state m).commits) (length (state m).queue) e

-- no two units have one serial number
abbrev pub AreDistinct : List Active → Type 0
AreDistinct us =
    (j k : ℕ) (u v : Active) → slice_get us j ≡ Some u → slice_get us k ≡ Some v → u.serial ≡ v.serial → j ≡ k

-- an event names one of the given number of tasks, or a position on a ring of the given number of units
abbrev pub EventFits : (tasks units : ℕ) → Event → Type 0
EventFits tasks units (Assign t) = t < tasks
EventFits tasks units e = position_of 0 e < units
