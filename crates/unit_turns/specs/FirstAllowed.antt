-- The first of some events that the machine allows.
use Rattle.std.specs.Prelude.{◌≡◌, ℕ, ◌<◌, List, ◌∷◌, ◌++◌, map, is_none, Option, Some, None, Ok, IfSome}
use Rattle.std.specs.List.{find, range_with_len}
use Rattle.std.specs.Option.{option_map, option_or}
use Rattle.task_descriptor.specs.Listing.{Listing}
use Rattle.machine_model.specs.Machine.{State}
use Rattle.machine_model.specs.Answer.{refusal, answer}
use Rattle.machine_model.specs.declared.event.Event.{Event}
use Rattle.processor_steps.specs.LeastRegisters.{IsLeast}

-- the registers, in ascending order
unfoldable pub registers : List ℕ
registers = range_with_len 0 34

unfoldable pub first_allowed : Listing → (units : ℕ) → State → List Event → Option Event
first_allowed p units s events = find (λ e. is_none (refusal p units s e)) events

-- What follows from it

-- the first event, where nothing refuses it
abbrev pub TakesAllowed : Type 0
TakesAllowed = (p : Listing) (units : ℕ) (s : State) (e : Event) (es : List Event) → refusal p units s e ≡ None → first_allowed p units s (e ∷ es) ≡ Some e

-- else that of the others
abbrev pub SkipsRefused : Type 0
SkipsRefused = (p : Listing) (units : ℕ) (s : State) (e : Event) (es : List Event) → (refusal p units s e ≡ None → ⊥) → first_allowed p units s (e ∷ es) ≡ first_allowed p units s es

-- of two lists that of the first one, else that of the other
abbrev pub GoesByLists : Type 0
GoesByLists = (p : Listing) (units : ℕ) (s : State) (front behind : List Event) → first_allowed p units s (front ++ behind) ≡ option_or (first_allowed p units s front) (first_allowed p units s behind)

-- of an event for each register, that of the least register
abbrev pub TakesLeast : Type 0
TakesLeast = (p : Listing) (units : ℕ) (s : State) (event : ℕ → Event) (least : Option ℕ) → IsLeast (λ r. refusal p units s (event r) ≡ None) least → IfSome least (λ r. r < 34) → first_allowed p units s (map event registers) ≡ option_map event least

-- what the machine allows, nothing refuses
abbrev pub AllowedIsUnrefused : Type 0
AllowedIsUnrefused = (p : Listing) (units : ℕ) (s : State) (count : ℕ) (e : Event) → answer p units s count e ≡ Ok tt → refusal p units s e ≡ None
