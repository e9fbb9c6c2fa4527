-- The theorems, as statements over every well-formed program, number of units and list of events.
use Rattle.std.specs.Prelude.{◌≡◌, ℕ, List, ◌++◌, ◌+◌, ◌↔◌, ◌<◌, Bool, length, replicate, slice_get, slice_set, Some, None, Ok}
use Rattle.task_descriptor.specs.Listing.{Listing, IsWellFormed}
use Rattle.task_descriptor.specs.declared.descriptor.Marked.{Marked}
use Rattle.task_graph.specs.Soundness.{Sound}
use Rattle.machine_model.specs.Machine.{Words, Active, State, value}
use Rattle.machine_model.specs.Unit.{after_exec}
use Rattle.machine_model.specs.Step.{Next, started}
use Rattle.machine_model.specs.Replay.{ReplaysFrom, Replays}
use Rattle.machine_model.specs.Answer.{most_events, answer, after, with_queue, replay}
use Rattle.machine_model.specs.Claims.{Claims, EndsLike, count_h}
use Rattle.machine_model.specs.HeadEvent.{head_event, growth, retired_after, active_after}
use Rattle.machine_model.specs.Places.{PlaceValid}
use Rattle.machine_model.specs.declared.event.Standing.TheVariants.{Running}
use Rattle.machine_model.specs.Burst.{Burst, AllIn, with_arrived, MasksFit, SentIsLast}
use Rattle.machine_model.specs.declared.event.Event.{Event}
use Rattle.machine_model.specs.declared.event.Event.TheVariants.{Exec}
use Rattle.machine_model.specs.declared.event.Spot.TheVariants.{Inside}

-- after every list of events that a sound program's machine allows, what retired is the plain run
abbrev pub Headline : Type 0
Headline =
    (p : Listing) (units : ℕ) (events : List Event) (s : State) → IsWellFormed p → Sound p → Replays p units events s → Claims p s

-- and the run ends as the plain run does
abbrev pub HowARunEnds : Type 0
HowARunEnds =
    (p : Listing) (units : ℕ) (events : List Event) (s : State) → IsWellFormed p → Sound p → Replays p units events s → EndsLike p s s.outcome

-- a replay may be cut in two anywhere
abbrev pub ReplayCut : Type 0
ReplayCut =
    (p : Listing) (units : ℕ) (s s' : State) (xs ys : List Event) → ReplaysFrom p units s (xs ++ ys) s' ↔ ((mid : State) × ReplaysFrom p units s xs mid × ReplaysFrom p units mid ys s')

-- an event is answered Ok exactly where it is allowed and there is room, and it leaves one state
abbrev pub AnswerIsNext : Type 0
AnswerIsNext =
    (p : Listing) (units : ℕ) (s : State) (n : ℕ) (e : Event) → IsWellFormed p → (answer p units s n e ≡ Ok tt) ↔ (Next p units s e (after p s e) × (n < most_events))

abbrev pub NextIsAfter : Type 0
NextIsAfter = (p : Listing) (units : ℕ) (s s' : State) (e : Event) → Next p units s e s' → s' ≡ after p s e

-- the relation and the function that computes it are one
abbrev pub ReplayIsReplays : Type 0
ReplayIsReplays =
    (p : Listing) (units : ℕ) (events : List Event) (s : State) → IsWellFormed p → (replay p units events ≡ Some s) ↔ Replays p units events s

-- there is a head event exactly while the run continues, and it is allowed
abbrev pub NeverStuck : Type 0
NeverStuck =
    (p : Listing) (units : ℕ) (events : List Event) (s : State) → IsWellFormed p → Sound p → 0 < units → Replays p units events s → s.outcome ≡ Running → (e : Event) × (head_event p s ≡ Some e) × Next p units s e (after p s e)

abbrev pub EndedHasNone : Type 0
EndedHasNone = (p : Listing) (s : State) → (s.outcome ≡ Running → ⊥) → head_event p s ≡ None

-- by how much each event lets h grow
abbrev pub EventsGrow : Type 0
EventsGrow =
    (p : Listing) (units : ℕ) (s s' : State) (e : Event) → Next p units s e s' → count_h s' ≡ count_h s + growth s e

-- how many tasks have retired, and how many units are active, by the events alone
abbrev pub EventsCount : Type 0
EventsCount =
    (p : Listing) (units : ℕ) (s s' : State) (e : Event) → Next p units s e s' → (length s'.commits ≡ retired_after (length s.commits) e) × (length s'.queue ≡ active_after (length s.queue) e)

-- a burst that was made on a unit, and is handed in where that unit stands with at most more registers
-- arrived, is a list of Exec events
abbrev pub BurstsAreEvents : Type 0
BurstsAreEvents =
    (p : Listing) (units n k : ℕ) (s : State) (before after_burst : Active) (arrived : Words) → Burst p before n after_burst → AllIn before.arrived arrived → s.outcome ≡ Running → slice_get s.queue k ≡ Some (with_arrived before arrived) →
    ReplaysFrom p units s (replicate n (Exec k)) (with_queue s (slice_set s.queue k (with_arrived after_burst arrived)))

-- each unit's place is valid, whatever its registers hold, on a wrong path too: after every replay
abbrev pub PlacesAreValid : Type 0
PlacesAreValid =
    (p : Listing) (units : ℕ) (events : List Event) (s : State) → IsWellFormed p → Sound p → Replays p units events s → (k : ℕ) (u : Active) → slice_get s.queue k ≡ Some u → PlaceValid p u

-- where a unit begins
abbrev pub PlacesBeginValid : Type 0
PlacesBeginValid = (p : Listing) (s : State) (t : ℕ) → IsWellFormed p → Sound p → t < length p.tasks → PlaceValid p (started p s t)

-- and after one more instruction
abbrev pub PlacesStayValid : Type 0
PlacesStayValid =
    (p : Listing) (u : Active) (index : ℕ) (m : Marked) (a b : ℕ) (memory : ℕ → ℕ) → IsWellFormed p → Sound p → PlaceValid p u → u.place ≡ Inside index → slice_get p.code index ≡ Some m → PlaceValid p (after_exec p u m index a b memory)

-- what a unit keeps of its sent registers: each Exec leaves them out of the next place's mask, and
-- keeps their values
abbrev pub SentRegistersStay : Type 0
SentRegistersStay =
    (p : Listing) (mask : ℕ → ℕ → Bool) (u : Active) (index : ℕ) (m : Marked) (a b : ℕ) (memory : ℕ → ℕ) → MasksFit p mask index m → u.place ≡ Inside index → slice_get p.code index ≡ Some m → SentIsLast mask u →
    SentIsLast mask (after_exec p u m index a b memory) × ((r word : ℕ) → u.sent r ≡ Some word → value (after_exec p u m index a b memory) r ≡ value u r)
