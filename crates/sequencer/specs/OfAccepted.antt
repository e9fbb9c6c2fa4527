-- The theorems about the machine of units, as statements about an accepted program,
-- over every number of units and every list of events
-- (the machine: Sohi, Breach, Vijaykumar, ISCA 1995).
use Rattle.std.specs.Prelude.{◌≡◌, ℕ, ◌<◌, Bool, List, slice_get, length, Some}
use Rattle.task_descriptor.specs.Listing.{Listing}
use Rattle.task_descriptor.specs.declared.descriptor.Marked.{Marked}
use Rattle.task_descriptor.specs.declared.descriptor.Descriptor.{Descriptor}
use Rattle.mask_certificate.specs.Lists.{mask_at, list_of}
use Rattle.mark_checker.specs.Rules.{in_mask}
use Rattle.mark_checker.specs.Places.{Checked}
use Rattle.machine_model.specs.Machine.{Active, State, value}
use Rattle.machine_model.specs.Unit.{after_exec}
use Rattle.machine_model.specs.Step.{Next}
use Rattle.machine_model.specs.Replay.{Replays}
use Rattle.machine_model.specs.Answer.{after}
use Rattle.machine_model.specs.Claims.{Claims, EndsLike}
use Rattle.machine_model.specs.HeadEvent.{head_event}
use Rattle.machine_model.specs.Burst.{MasksFit, SentIsLast}
use Rattle.machine_model.specs.Places.{PlaceValid}
use Rattle.machine_model.specs.declared.event.Event.{Event}
use Rattle.machine_model.specs.declared.event.Spot.TheVariants.{Inside}
use Rattle.machine_model.specs.declared.event.Standing.TheVariants.{Running}

abbrev pub Headline : Listing → Type 0
Headline p = (units : ℕ) (events : List Event) (s : State) → Replays p units events s → Claims p s

abbrev pub RunEnds : Listing → Type 0
RunEnds p = (units : ℕ) (events : List Event) (s : State) → Replays p units events s → EndsLike p s s.outcome

abbrev pub NeverStuck : Listing → Type 0
NeverStuck p =
    (units : ℕ) (events : List Event) (s : State) → 0 < units → Replays p units events s → s.outcome ≡ Running
    → (e : Event) × (head_event p s ≡ Some e) × Next p units s e (after p s e)

-- the list of task t has a mask at index i
abbrev pub HasMask : Checked → (t i : ℕ) → Type 0
HasMask a t i = (mask : ℕ) × (mask_at (list_of a.cert t) i ≡ Some mask)

-- where the place of a unit is valid, that is an instruction with a mask in its task's list, or the unit
-- has stopped
abbrev pub PlacesMasked : Checked → Type 0
PlacesMasked a =
    (u : Active) → PlaceValid a.program u → (i : ℕ) → u.place ≡ Inside i → (i < length a.program.code) × HasMask a u.task i

-- after every list of events each unit stands at such an instruction, or has stopped
abbrev pub ReplayedPlacesMasked : Checked → Type 0
ReplayedPlacesMasked a =
    (units : ℕ) (events : List Event) (s : State) → Replays a.program units events s → (k : ℕ) (u : Active) → slice_get s.queue k ≡ Some u
    → (i : ℕ) → u.place ≡ Inside i → (i < length a.program.code) × HasMask a u.task i

-- whether the mask of a task's list at an index has a register; none where there is no mask
abbrev pub masks_of : Checked → (t i r : ℕ) → Bool
masks_of a t i r = in_mask (mask_at (list_of a.cert t) i) r

-- what the rules ask of the masks of a task's list, at each of its instructions that has one
abbrev pub AllMasksFit : Checked → Type 0
AllMasksFit a =
    (t i mask : ℕ) (d : Descriptor) (m : Marked) → slice_get a.program.tasks t ≡ Some d → slice_get a.program.code i ≡ Some m
    → mask_at (list_of a.cert t) i ≡ Some mask → MasksFit a.program (masks_of a t) i m

-- where no register that was sent is in the mask of the unit's place, that holds after an Exec too, and
-- each such register keeps its value
abbrev pub SentStays : Checked → Type 0
SentStays c =
    (u : Active) (index : ℕ) (m : Marked) (a b : ℕ) (memory : ℕ → ℕ) → PlaceValid c.program u → u.place ≡ Inside index → slice_get c.program.code index ≡ Some m
    → SentIsLast (masks_of c u.task) u
    → SentIsLast (masks_of c u.task) (after_exec c.program u m index a b memory)
    × ((r word : ℕ) → u.sent r ≡ Some word → value (after_exec c.program u m index a b memory) r ≡ value u r)
