-- What is seen of a state, and what changes make of it. Not seen are the serial numbers of units, what their
-- instructions read, which registers arrived with 0, and the registers that were handed over at the last Retire:
-- changes do not tell these.
use Rattle.std.specs.Prelude.{ℕ, zero, suc, List, [], ◌∷◌, ◌++◌, map, length, take, drop, slice_set, unwrap_or, Option, Some, None}
use Rattle.std.specs.List.{range_with_len}
use Rattle.mips_plain.specs.Effect.{stored}
use Rattle.mips_plain.specs.MemoryMap.{region}
use Rattle.task_descriptor.specs.Listing.{Listing}
use Rattle.machine_model.specs.Machine.{Active, State}
use Rattle.machine_model.specs.Answer.{after}
use Rattle.machine_model.specs.declared.event.Commit.{Commit}
use Rattle.machine_model.specs.declared.event.Event.{Event}
use Rattle.machine_model.specs.declared.event.Spot.{Spot}
use Rattle.machine_model.specs.declared.event.Spot.TheVariants.{Inside, Stopped}
use Rattle.machine_model.specs.declared.event.Standing.{Standing}
use Rattle.event_trace.specs.Changes.{changes_of, register_count}
use Rattle.event_trace.specs.declared.change.Change.{Change}
use Rattle.event_trace.specs.declared.change.Change.TheVariants.{AtUnit, Took, Loaded, Stored, Wrote, Sent, PutOut, MovedTo, StoppedAt, Ended}
use Rattle.event_trace.specs.declared.unit_change.UnitChange.{UnitChange}
use Rattle.event_trace.specs.declared.unit_change.UnitChange.TheVariants.{Began, Executed, Arrived, Drained, Squashed, Dropped, Retired, BecameHead}

abbrev pub registers : List ℕ
registers = range_with_len 0 register_count

-- a unit: its task, where it stands, how many instructions it executed, and for each register the word that
-- arrived, 0 if none did, the word that the unit wrote itself, and the word that it sent
pub record SeenUnit : Type 0 where
  pub task : ℕ
  pub place : Spot
  pub executed : ℕ
  pub arrived : List ℕ
  pub own : List (Option ℕ)
  pub sent : List (Option ℕ)

-- the units from the head on, data memory, the output, how the run stands, the address at which the next task
-- after the retired ones begins, and the retired tasks
pub record Seen : Type 0 where
  pub queue : List SeenUnit
  pub memory : ℕ → ℕ
  pub output : List ℕ
  pub outcome : Standing
  pub next : ℕ
  pub commits : List Commit

abbrev pub seen_unit : Active → SeenUnit
seen_unit u = record {
  task = u.task;
  place = u.place;
  executed = length u.log;
  arrived = map (λ r. unwrap_or (u.arrived r) 0) registers;
  own = map u.local registers;
  sent = map u.sent registers;
}

abbrev pub seen : State → Seen
seen s = record {
  queue = map seen_unit s.queue;
  memory = s.memory;
  output = s.output;
  outcome = s.outcome;
  next = s.next;
  commits = s.commits;
}

-- ---- what a change makes of a unit

abbrev pub beginning : (task index : ℕ) → SeenUnit
beginning task index = record {
  task = task;
  place = Inside index;
  executed = 0;
  arrived = map (λ r. 0) registers;
  own = map (λ r. None) registers;
  sent = map (λ r. None) registers;
}

abbrev pub executing : SeenUnit → SeenUnit
executing u = record u { executed = suc u.executed }

abbrev pub taking : (r word : ℕ) → SeenUnit → SeenUnit
taking r word u = record u { arrived = slice_set u.arrived r word }

abbrev pub writing : (r word : ℕ) → SeenUnit → SeenUnit
writing r word u = record u { own = slice_set u.own r (Some word) }

abbrev pub sending : (r word : ℕ) → SeenUnit → SeenUnit
sending r word u = record u { sent = slice_set u.sent r (Some word) }

abbrev pub standing_at : Spot → SeenUnit → SeenUnit
standing_at place u = record u { place = place }

-- ---- what a change makes of the whole

-- units, where the one at a position changes
abbrev pub changed_at : List SeenUnit → (position : ℕ) → (SeenUnit → SeenUnit) → List SeenUnit
changed_at (u ∷ us) zero change = change u ∷ us
changed_at (u ∷ us) (suc k) change = u ∷ changed_at us k change
changed_at [] k change = []

abbrev pub with_unit_at : (position : ℕ) → (SeenUnit → SeenUnit) → Seen → Seen
with_unit_at k change x = record x { queue = changed_at x.queue k change }

-- with no unit from a position on
abbrev pub cut_at : (position : ℕ) → Seen → Seen
cut_at k x = record x { queue = take k x.queue }

-- how many instructions the head executed
abbrev pub by_head : List SeenUnit → ℕ
by_head [] = 0
by_head (u ∷ us) = u.executed

-- with the head's task retired
abbrev pub without_head : (task exit : ℕ) → Seen → Seen
without_head task exit x = record x {
  queue = drop 1 x.queue;
  next = exit;
  commits = x.commits ++ record { task = task; exit = exit; count = by_head x.queue } ∷ [];
}

abbrev pub with_unit_change : (position task : ℕ) → UnitChange → Seen → Seen
with_unit_change k task (Began index) x = record x { queue = x.queue ++ beginning task index ∷ [] }
with_unit_change k task (Executed index) x = with_unit_at k executing x
with_unit_change k task (Arrived r word) x = with_unit_at k (taking r word) x
with_unit_change k task (Drained r word) x = with_unit_at k (sending r word) x
with_unit_change k task Squashed x = cut_at k x
with_unit_change k task Dropped x = cut_at k x
with_unit_change k task (Retired exit) x = without_head task exit x
with_unit_change k task BecameHead x = x

-- with a change; one that names no unit is of the unit at this position
abbrev pub with_change : (position : ℕ) → Change → Seen → Seen
with_change k (AtUnit j task change) x = with_unit_change j task change x
with_change k (Took r word) x = with_unit_at k (taking r word) x
with_change k (Loaded at word) x = x
with_change k (Stored at word size) x = record x { memory = stored size word (region size at) x.memory }
with_change k (Wrote r word) x = with_unit_at k (writing r word) x
with_change k (Sent r word) x = with_unit_at k (sending r word) x
with_change k (PutOut word) x = record x { output = x.output ++ word ∷ [] }
with_change k (MovedTo index) x = with_unit_at k (standing_at (Inside index)) x
with_change k (StoppedAt at) x = with_unit_at k (standing_at (Stopped at)) x
with_change k (Ended standing) x = record x { outcome = standing }

-- the position of the unit that the changes after one are of: the one that was named last, which as the new head
-- is at 0
abbrev pub position_told : (position : ℕ) → Change → ℕ
position_told k (AtUnit j task BecameHead) = 0
position_told k (AtUnit j task change) = j
position_told k change = k

abbrev pub with_changes_at : (position : ℕ) → List Change → Seen → Seen
with_changes_at k [] x = x
with_changes_at k (c ∷ cs) x = with_changes_at (position_told k c) cs (with_change k c x)

-- with the changes of an event, of which the first that is of a unit names it
abbrev pub with_changes : Seen → List Change → Seen
with_changes x changes = with_changes_at 0 changes x

-- ---- the changes of some events

-- those of each, where each is allowed where it comes
abbrev pub changes_through : Listing → State → List Event → List (List Change)
changes_through p s [] = []
changes_through p s (e ∷ es) = changes_of p s e (after p s e) ∷ changes_through p (after p s e) es
