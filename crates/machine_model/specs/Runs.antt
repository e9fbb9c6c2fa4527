-- Runs of equal events, as a history keeps them.
use Rattle.std.specs.Prelude.{List, flat_map, replicate}
use Rattle.machine_model.specs.declared.event.Event.{Event}
use Rattle.machine_model.specs.declared.event.EventRun.{EventRun}

-- the events of some runs, in order
abbrev pub events_of : List EventRun → List Event
events_of runs = flat_map (λ run. replicate run.count run.event) runs
