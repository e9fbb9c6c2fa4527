-- How a worker continues with one of its units: by longer and longer bursts, or by single instructions.
use Rattle.std.specs.Prelude.{ℕ, ◌*◌, ◌-◌, max, List, Bool, false, ◌&&◌, not, min, nat_eq, nat_le, if◌then◌else◌, length, slice_get, unwrap_or, Option, Some, None, Result, Ok, Err}
use Rattle.machine_model.specs.declared.event.Event.TheVariants.{Exec}
use Rattle.machine_model.specs.declared.event.Refused.{Refused}
use Rattle.sequencer.specs.Machines.{MachineView, state}
use Rattle.sequencer.specs.Rings.{unit_for}
use Rattle.threaded_runner.specs.declared.pace.Pace.{Pace}

-- a unit that has had no task
abbrev pub fresh_pace : Pace
fresh_pace = record { most = 64; single = 0; dropped_at = None }

-- the next burst is as long as a task's first; it is twice as long, up to 65,536; the next 64 instructions are
-- executed one by one
abbrev pub anew : Pace → Pace
anew p = record p { most = 64 }

abbrev pub doubled : Pace → Pace
doubled p = record p { most = min (p.most * 2) 65536 }

abbrev pub one_by_one : Pace → Pace
one_by_one p = record p { single = 64 }

-- the unit begins a task
abbrev pub next_task : Pace → Pace
next_task p = record p { most = 64; dropped_at = None }

-- after the given number of instructions one by one, or one that was refused
abbrev pub after_single : (steps : ℕ) → Pace → Pace
after_single steps p = record p { single = p.single - max steps 1 }

-- after a burst in place of the given number of instructions: one that was as long as it might be was all of one task
abbrev pub after_in_place : (most steps : ℕ) → Pace → Pace
after_in_place most steps p =
    if nat_eq steps 0 then one_by_one p else (if nat_eq steps most then doubled p else p)

-- after the answer to a burst of the given number of instructions: one that was taken whole is followed by a longer
-- one; one that ended early costs more than as many single instructions, where another worker may want the lock;
-- a stale one that had instructions is made anew
abbrev pub after_taken : (is_all : Bool) → (most events : ℕ) → Pace → Pace
after_taken is_all most events p =
    if nat_eq events most then doubled p
    else (if nat_le 64 events then p else (if is_all then anew p else one_by_one p))

abbrev pub after_check_in : (is_all : Bool) → (most steps : ℕ) → Result ℕ Refused → Pace → Pace
after_check_in is_all most steps (Ok events) p =
    if nat_eq events 0 then (if nat_eq steps 0 then one_by_one p else anew p) else after_taken is_all most events p
after_check_in is_all most steps (Err why) p = one_by_one p

-- the pace of a unit
abbrev pub pace_of : List Pace → (unit : ℕ) → Pace
pace_of paces unit = unwrap_or (slice_get paces unit) fresh_pace

-- A unit that was dropped for want of memory, when the given number of tasks had retired, takes no task until another
-- one has retired or the queue is empty; then the unit is the one that the head event belongs to.
abbrev pub is_held_since : Option ℕ → MachineView → (unit : ℕ) → Bool
is_held_since None m unit = false
is_held_since (Some retired) m unit =
    nat_le (length (state m).commits) retired && not (nat_eq (unit_for m (Exec 0)) unit)

abbrev pub is_held : List Pace → MachineView → (unit : ℕ) → Bool
is_held paces m unit = is_held_since (pace_of paces unit).dropped_at m unit
