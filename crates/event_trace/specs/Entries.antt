-- Events one after the other: the model's answer to each, and what it changed between the states
-- before and after it.
use Rattle.std.specs.Prelude.{◌≡◌, ℕ, suc, List, [], Result, Ok, Err}
use Rattle.task_descriptor.specs.Listing.{Listing}
use Rattle.machine_model.specs.Machine.{State}
use Rattle.machine_model.specs.Answer.{after}
use Rattle.machine_model.specs.declared.event.Event.{Event}
use Rattle.machine_model.specs.declared.event.Refused.{Refused}
use Rattle.annotated_asm.specs.declared.position.Position.{Position}
use Rattle.annotated_asm.specs.Sources.{Sources, sources_of}
use Rattle.annotated_asm.specs.declared.fault.AsmFault.{AsmFault}
use Rattle.event_trace.specs.declared.told.Told.{Told}
use Rattle.event_trace.specs.declared.told.Told.TheVariants as told
use Rattle.event_trace.specs.Changes.{changes_of}

-- the positions of the instructions in a program text; empty if the text is not a program
abbrev pub places_in : Result Sources AsmFault → List Position
places_in (Ok sources) = sources.code
places_in (Err fault) = []

abbrev pub places_of : List ℕ → List Position
places_of text = places_in (sources_of text)

-- the state after an event, and the number of events that were allowed: one that is refused changes neither
abbrev pub state_behind : Listing → State → Event → Result (Unit {0}) Refused → State
state_behind p s e (Ok done) = after p s e
state_behind p s e (Err why) = s

abbrev pub count_behind : ℕ → Result (Unit {0}) Refused → ℕ
count_behind n (Ok done) = suc n
count_behind n (Err why) = n

-- what a walk reports of an event in a state: by its answer, what it changed or why it was refused
abbrev pub Tells : Listing → State → Event → Result (Unit {0}) Refused → Told → Type 0
Tells p s e (Ok done) (told.Taken changes) = changes.items ≡ changes_of p s e (after p s e)
Tells p s e (Err why) (told.Refused refusal) = refusal ≡ why
Tells p s e answer other = ⊥
