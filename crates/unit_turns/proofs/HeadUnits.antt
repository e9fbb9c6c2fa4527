-- The head event is at position 0, by cases on the queue and on where its head stands.
use Rattle.unit_turns.proofs.Imports.{◌≡◌, ℕ, ◌+◌, ◌%◌, List, [], ◌∷◌, length, Bool, true, false, Option, Some, None, refl, sym, ap, ◌∙◌, not, if◌then◌else◌, option_map, Listing, Active, is_running, head_event, event_of_queue, event_of_head, drain_or_retire, task_beginning, position_of, Event, Assign, Exec, Squash, Fault, MachineView, state, units_of, unit_for}
use Rattle.machine_model.specs.declared.event.Spot.{Spot}
use Rattle.machine_model.specs.declared.event.Spot.TheVariants.{Inside, Stopped}

-- the position of an event in a queue of this many units, 0 where there is none
abbrev place_of : (active : ℕ) → Option Event → ℕ
place_of active None = 0
place_of active (Some e) = position_of active e

at_exit : (listed begins : Bool) (o : Option ℕ) (n : ℕ) → position_of n (if not listed then Fault else if not begins then Squash 0 else drain_or_retire o) ≡ 0
at_exit false begins o n = refl
at_exit true false o n = refl
at_exit true true None n = refl
at_exit true true (Some r) n = refl

at_head : (p : Listing) (u : Active) (us : List Active) (spot : Spot) (n : ℕ) → position_of n (event_of_head p u us spot) ≡ 0
at_head p u us (Inside index) n = refl
at_head p u us (Stopped exit) n = at_exit _ _ _ n

assigned : (o : Option ℕ) → place_of 0 (option_map Assign o) ≡ 0
assigned None = refl
assigned (Some t) = refl

of_queue : (p : Listing) (next : ℕ) (us : List Active) → place_of (length us) (event_of_queue p next us) ≡ 0
of_queue p next [] = assigned (task_beginning p next)
of_queue p next (u ∷ us) = at_head p u us u.place (length (u ∷ us))

while_running : (b : Bool) (o : Option Event) (n : ℕ) → place_of n o ≡ 0 → place_of n (if b then o else None) ≡ 0
while_running true o n h = h
while_running false o n h = refl

-- so it belongs to the unit there
pub head_belongs : (m : MachineView) (e : Event) → head_event m.accepted.program (state m) ≡ Some e → unit_for m e ≡ unit_for m (Exec 0)
head_belongs m e h =
    let p = m.accepted.program in
    let s = state m in
    let n = length s.queue in
    ap (λ (k : ℕ). (length s.commits + k) % units_of m)
    (ap (place_of n) (sym h) ∙ while_running (is_running s.outcome) (event_of_queue p s.next s.queue) n (of_queue p s.next s.queue))
