-- How many events of a history belong to each worker. The units are numbered round a ring; a worker
-- serves the units whose number, modulo the number of workers, is its own.
use Rattle.std.specs.Prelude.{◌≡◌, ℕ, ◌+◌, ◌%◌, ◌<◌, List, [], ◌∷◌, length, sum, fold, slice_index, nat_eq, if◌then◌else◌}
use Rattle.machine_model.specs.HeadEvent.{unit_of, retired_after, active_after}
use Rattle.machine_model.specs.declared.event.Event.{Event}

-- how many tasks have retired, and how many units are at work, after a history
abbrev pub retired_by : List Event → ℕ
retired_by history = fold retired_after 0 history

abbrev pub active_by : List Event → ℕ
active_by history = fold active_after 0 history

-- how many of these events belong to a worker, where the given numbers of tasks have retired and of units are at
-- work before the first of them
abbrev pub events_from : (units workers worker retired active : ℕ) → List Event → ℕ
events_from units workers worker retired active [] = 0
events_from units workers worker retired active (e ∷ es) =
    (if nat_eq (unit_of units retired active e % workers) worker then 1 else 0)
    + events_from units workers worker (retired_after retired e) (active_after active e) es

abbrev pub events_of : (units workers worker : ℕ) → List Event → ℕ
events_of units workers worker history = events_from units workers worker 0 0 history

-- one number for each worker: how many events of the history are its own; they add up to its length
pub record IsCounted (units : ℕ) (history : List Event) (counts : List ℕ) : Type 0 where
  pub each : (w : ℕ) → w < length counts → slice_index counts w ≡ events_of units (length counts) w history
  pub all : sum counts ≡ length history
