-- The machine step: when each event is allowed and what it leaves (ISCA 1995, sections 2.1 and 2.2;
-- that a step is one instruction or one register, and what waits for the head, are this project's choices).
use Rattle.std.specs.Prelude.{◌≡◌, ℕ, suc, ◌<◌, ◌⊎◌, List, [], ◌∷◌, ◌++◌, Bool, true, false, ◌&&◌, nat_eq, if◌then◌else◌, length, take, slice_get, slice_set, IsSome, Option, Some, None}
use Rattle.std.specs.List.{list_any, last_or}
use Rattle.std.specs.Option.{option_or, unwrap_or}
use Rattle.mips_instructions.specs.Words.{address}
use Rattle.mips_plain.specs.Effect.{memory_after, output_after, outcome_after, may_run_ahead}
use Rattle.mips_plain.specs.declared.outcome.Outcome.{Outcome}
use Rattle.mips_plain.specs.declared.outcome.Outcome.TheVariants.{Running, Halted, Trapped}
use Rattle.task_descriptor.specs.Listing.{Listing}
use Rattle.task_descriptor.specs.declared.descriptor.Marked.{Marked}
use Rattle.task_graph.specs.Soundness.{is_target}
use Rattle.machine_model.specs.Machine.{task_at, Active, State, creates, begins, pass}
use Rattle.machine_model.specs.Unit.{put, IsNext, after_exec, Sends}
use Rattle.machine_model.specs.declared.event.Event.{Event}
use Rattle.machine_model.specs.declared.event.Event.TheVariants.{Assign, Exec, Transfer, Drain, Squash, Retire, Fault, Drop}
use Rattle.machine_model.specs.declared.event.Spot.{Spot}
use Rattle.machine_model.specs.declared.event.Spot.TheVariants.{Inside, Stopped}
use Rattle.machine_model.specs.declared.event.Standing.{Standing}
use Rattle.machine_model.specs.declared.event.Standing.TheVariants as standing

-- whether an address is that of a target of a task
abbrev pub is_listed : Listing → (t at : ℕ) → Bool
is_listed p t at = list_any (λ target. nat_eq (address target) at) (task_at p t).targets

-- Assign: a register in an active task's create mask is reserved, and arrives later

abbrev pub is_reserved : Listing → List Active → ℕ → Bool
is_reserved p us r = list_any (λ u. creates p u.task r) us

abbrev pub started : Listing → State → ℕ → Active
started p s t = record {
  task = t;
  serial = s.assigns;
  arrived = λ r. if is_reserved p s.queue r then None else Some (s.regs r);
  local = λ r. None;
  sent = λ r. None;
  place = Inside (task_at p t).entry;
  log = [];
}

-- after a stopped tail the task begins where the tail stopped, and the tail lists it; after a
-- running tail it is a target; on an empty queue it begins at the next address
abbrev pub follows_at : Listing → (tail t : ℕ) → Spot → Bool
follows_at p tail t (Inside index) = is_target (task_at p tail) (task_at p t).entry
follows_at p tail t (Stopped at) = nat_eq (begins p t) at && is_listed p tail at

abbrev pub follows : Listing → (next t : ℕ) → Option Active → Bool
follows p next t None = nat_eq (begins p t) next
follows p next t (Some tail) = follows_at p tail.task t tail.place

pub record Assigns (p : Listing) (units : ℕ) (s : State) (t : ℕ) (s' : State) : Type 0 where
  pub is_task : t < length p.tasks
  pub is_free : length s.queue < units
  pub may_follow : follows p s.next t (last_or None s.queue) ≡ true
  pub is : s' ≡ record s { queue = s.queue ++ started p s t ∷ []; assigns = suc s.assigns }

-- Exec: one instruction of a unit

abbrev pub stands : Outcome → Standing
stands Running = standing.Running
stands Halted = standing.Halted
stands (Trapped trap) = standing.Trapped trap

abbrev pub exec_leaves : Listing → State → ℕ → Active → Marked → (index a b : ℕ) → State
exec_leaves p s k u m index a b = record s {
  queue = slice_set s.queue k (after_exec p u m index a b s.memory);
  memory = memory_after m.op a b s.memory;
  output = output_after m.op a s.output;
  outcome = stands (outcome_after m.op a);
}

pub record Execs (p : Listing) (s : State) (k : ℕ) (s' : State) : Type 0 where
  pub unit : Active
  pub is_unit : slice_get s.queue k ≡ Some unit
  pub index : ℕ
  pub at : Marked
  pub a : ℕ
  pub b : ℕ
  pub next : IsNext p unit index at a b
  pub may : (k ≡ 0) ⊎ (may_run_ahead at.op a ≡ true)
  pub is : s' ≡ exec_leaves p s k unit at index a b

-- Transfer: a unit takes a register from the unit before it

pub record Transfers (p : Listing) (s : State) (k r : ℕ) (s' : State) : Type 0 where
  pub ahead : ℕ
  pub is_ahead : k ≡ suc ahead
  pub giver : Active
  pub is_giver : slice_get s.queue ahead ≡ Some giver
  pub unit : Active
  pub is_unit : slice_get s.queue k ≡ Some unit
  pub is_missing : unit.arrived r ≡ None
  pub word : ℕ
  pub has_word : pass p giver r ≡ Some word
  pub is : s' ≡ record s { queue = slice_set s.queue k (record unit { arrived = put r word unit.arrived }) }

-- Drain: a unit sends a register

pub record Drains (p : Listing) (s : State) (k r : ℕ) (s' : State) : Type 0 where
  pub unit : Active
  pub is_unit : slice_get s.queue k ≡ Some unit
  pub after : Active
  pub sends : Sends p unit r after
  pub is : s' ≡ record s { queue = slice_set s.queue k after }

-- Squash: the next unit begins elsewhere than this one stopped, so all after this one are removed

pub record Squashes (p : Listing) (s : State) (k : ℕ) (s' : State) : Type 0 where
  pub unit : Active
  pub is_unit : slice_get s.queue k ≡ Some unit
  pub exit : ℕ
  pub is_stopped : unit.place ≡ Stopped exit
  pub after : Active
  pub is_after : slice_get s.queue (suc k) ≡ Some after
  pub is_elsewhere : nat_eq (begins p after.task) exit ≡ false
  pub is : s' ≡ record s { queue = take (suc k) s.queue }

-- Retire: the head passes on what it sent, and the next unit becomes the head

abbrev pub next_begins : Listing → List Active → (at : ℕ) → Bool
next_begins p [] at = true
next_begins p (u ∷ us) at = nat_eq (begins p u.task) at

abbrev pub handed_over : Listing → Active → (ℕ → ℕ) → ℕ → ℕ
handed_over p u regs r = unwrap_or (if creates p u.task r then u.sent r else None) (regs r)

-- the new head takes each register that has not arrived
abbrev pub filled : (ℕ → ℕ) → List Active → List Active
filled regs [] = []
filled regs (u ∷ us) = record u { arrived = λ r. option_or (u.arrived r) (Some (regs r)) } ∷ us

abbrev pub retire_leaves : Listing → State → Active → List Active → (exit : ℕ) → State
retire_leaves p s head rest exit = record s {
  queue = filled (handed_over p head s.regs) rest;
  regs = handed_over p head s.regs;
  next = exit;
  reads = s.reads ++ head.log;
  commits = s.commits ++ record { task = head.task; exit = exit; count = length head.log } ∷ [];
}

pub record Retires (p : Listing) (s : State) (s' : State) : Type 0 where
  pub head : Active
  pub rest : List Active
  pub is_queue : s.queue ≡ head ∷ rest
  pub exit : ℕ
  pub is_stopped : head.place ≡ Stopped exit
  pub is_listed : is_listed p head.task exit ≡ true
  pub all_sent : (r : ℕ) → creates p head.task r ≡ true → IsSome (head.sent r)
  pub next_begins : next_begins p rest exit ≡ true
  pub is : s' ≡ retire_leaves p s head rest exit

-- Fault: the head has stopped at an address that is not listed

pub record Faults (p : Listing) (s : State) (s' : State) : Type 0 where
  pub head : Active
  pub is_head : slice_get s.queue 0 ≡ Some head
  pub exit : ℕ
  pub is_stopped : head.place ≡ Stopped exit
  pub is_unlisted : is_listed p head.task exit ≡ false
  pub is : s' ≡ record s { outcome = standing.Unlisted exit }

-- Drop: a unit after the head and all after it are removed

pub record Drops (s : State) (k : ℕ) (s' : State) : Type 0 where
  pub unit : Active
  pub is_unit : slice_get s.queue k ≡ Some unit
  pub is_behind : 0 < k
  pub is : s' ≡ record s { queue = take k s.queue }

abbrev pub Does : Listing → (units : ℕ) → State → Event → State → Type 0
Does p units s (Assign t) s' = Assigns p units s t s'
Does p units s (Exec k) s' = Execs p s k s'
Does p units s (Transfer k r) s' = Transfers p s k r s'
Does p units s (Drain k r) s' = Drains p s k r s'
Does p units s (Squash k) s' = Squashes p s k s'
Does p units s Retire s' = Retires p s s'
Does p units s Fault s' = Faults p s s'
Does p units s (Drop k) s' = Drops s k s'

-- event e is allowed in s, while the run continues, and leaves s'
pub record Next (p : Listing) (units : ℕ) (s : State) (e : Event) (s' : State) : Type 0 where
  pub runs : s.outcome ≡ standing.Running
  pub does : Does p units s e s'
