-- Runs of a history, and the instructions that it executed.
use Rattle.std.specs.Prelude.{ℕ, ◌<◌, Bool, true, false, List}
use Rattle.std.specs.List.{All, count_by}
use Rattle.machine_model.specs.declared.event.Event.{Event}
use Rattle.machine_model.specs.declared.event.Event.TheVariants.{Exec}
use Rattle.machine_model.specs.declared.event.EventRun.{EventRun}

-- each run has an event
abbrev pub AreCounted : List EventRun → Type 0
AreCounted runs = All (λ run. 0 < run.count) runs

abbrev pub is_exec : Event → Bool
is_exec (Exec k) = true
is_exec e = false

-- how many of some events are Exec events, each of which executes one instruction
abbrev pub executed_in : List Event → ℕ
executed_in events = count_by is_exec events
