-- A turn by the kind of its event.
use Rattle.unit_turns.proofs.Imports.{◌≡◌, Bool, true, false, Some, Event, Assign, Exec, Transfer, Drain, Squash, Retire, Fault, Drop, turn_of_head, Wait}

-- the head never waits for an event
pub head_acts : (in_burst : Bool) (e : Event) → turn_of_head in_burst (Some e) ≡ Wait → ⊥
head_acts in_burst (Assign t) h = cc
head_acts true (Exec k) h = cc
head_acts false (Exec k) h = cc
head_acts in_burst (Transfer k r) h = cc
head_acts in_burst (Drain k r) h = cc
head_acts in_burst (Squash k) h = cc
head_acts in_burst Retire h = cc
head_acts in_burst Fault h = cc
head_acts in_burst (Drop k) h = cc
