-- A stop that should not be there. Without it, the task that ends there and each other task that reaches it go right from
-- there on, as far as exits are concerned: each exit is a target where a task begins, each other edge leads to an
-- instruction, and a jump to an address in a register ends the task.
use Rattle.std.specs.Prelude.{◌≡◌, ℕ, ◌<◌, Bool, true, false, not, ◌&&◌, ◌||◌, ◌==◌, List, length, nat_lt, nat_le, slice_get, slice_set, is_some, Option, Some, None}
use Rattle.std.specs.List.{list_any}
use Rattle.task_descriptor.specs.Listing.{Listing}
use Rattle.task_descriptor.specs.declared.descriptor.Marked.{Marked}
use Rattle.task_descriptor.specs.declared.descriptor.Stop.TheVariants as stop
use Rattle.task_graph.specs.Edges.{is_indirect}
use Rattle.task_graph.specs.Members.{Reaches}
use Rattle.mask_certificate.specs.Lists.{mask_at}
use Rattle.mark_checker.specs.Rules.{stops_always}
use Rattle.mark_subjects.specs.Subjects.{Judged, targets_of, entries_of, is_entry, end_in}

-- the instructions without the stop of one of them, and a program with these instructions
abbrev pub unstopped : Marked → Marked
unstopped m = record { op = m.op; forward = m.forward; stop = stop.None }

abbrev pub unstopped_in : List Marked → (index : ℕ) → Option Marked → List Marked
unstopped_in code i None = code
unstopped_in code i (Some m) = slice_set code i (unstopped m)

abbrev pub without_stop : List Marked → (index : ℕ) → List Marked
without_stop code i = unstopped_in code i (slice_get code i)

abbrev pub with_code : Listing → List Marked → Listing
with_code p code = record p { code = code }

-- where the edges of one of some instructions lead: its exits, and the edges that stay in the task
abbrev pub exit_at : List Marked → (index : ℕ) → (taken : Bool) → Option ℕ
exit_at code j taken = end_in true (slice_get code j) j taken

abbrev pub inner_at : List Marked → (index : ℕ) → (taken : Bool) → Option ℕ
inner_at code j taken = end_in false (slice_get code j) j taken

-- an exit is a target where a task begins
abbrev pub may_exit : Judged → (task : ℕ) → Option ℕ → Bool
may_exit s task None = true
may_exit s task (Some k) = is_entry s k && list_any (λ t. t == k) (targets_of s task)

-- an edge leads to no instruction
abbrev pub is_past : List Marked → Option ℕ → Bool
is_past code None = false
is_past code (Some k) = nat_le (length code) k

-- a jump to an address in a register ends the task
abbrev pub ends_if_indirect : Option Marked → Bool
ends_if_indirect None = true
ends_if_indirect (Some m) = not (is_indirect m.op) || stops_always m.stop

-- a task goes right at an instruction
abbrev pub stays_right : List Marked → (index : ℕ) → Bool
stays_right code j = not (is_past code (inner_at code j false) || is_past code (inner_at code j true)) && ends_if_indirect (slice_get code j)

abbrev pub goes_right : Judged → List Marked → (task index : ℕ) → Bool
goes_right s code task j = (may_exit s task (exit_at code j false) && may_exit s task (exit_at code j true)) && stays_right code j

-- the task, and each other one that reaches the instruction at i
abbrev pub comes_to : Judged → (task i other : ℕ) → Bool
comes_to s task i other = other == task || (nat_lt other (length s.program.tasks) && is_some (mask_at (entries_of s other) i))

-- Each of them goes right wherever a path leads from there, if the instruction does not end the task.
pub record IsNeedless (s : Judged) (task i : ℕ) : Type 0 where
  pub there : i < length s.program.code
  pub right : (other j : ℕ) → comes_to s task i other ≡ true
      → Reaches (with_code s.program (without_stop s.program.code i)) i j → goes_right s (without_stop s.program.code i) other j ≡ true
