-- Where the marks are sound, no list of events shows any harm.
use Rattle.std.specs.Prelude.{ℕ, List}
use Rattle.task_descriptor.specs.Listing.{Listing, IsWellFormed}
use Rattle.task_graph.specs.Soundness.{Sound}
use Rattle.machine_model.specs.declared.event.Event.{Event}
use Rattle.demonstration.specs.Shown.{IsShown}
use Rattle.demonstration.specs.declared.judge.Evidence.{Evidence}

-- no list of events shows a harm of this program, on any number of units
abbrev pub ShowsNothing : Listing → Type 0
ShowsNothing p = (units : ℕ) (events : List Event) (it : Evidence) → IsShown p units events it → ⊥

abbrev pub SoundMarksShowNothing : Type 0
SoundMarksShowNothing = (p : Listing) → IsWellFormed p → Sound p → ShowsNothing p
