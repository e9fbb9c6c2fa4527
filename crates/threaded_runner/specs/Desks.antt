-- What the lock holds, as contracts see it; the predictor is left out.
use Rattle.std.specs.Prelude.{◌≡◌, ℕ, ◌<◌, ◌≤◌, ◌⊎◌, List, Bool, true, false, length, replicate}
use Rattle.machine_model.specs.declared.event.Standing.TheVariants as standing
use Rattle.mark_checker.specs.Places.{Checked}
use Rattle.sequencer.specs.Machines.{MachineView, state, units_of}
use Rattle.threaded_runner.specs.Counts.{IsCounted}
use Rattle.threaded_runner.specs.Reports.{AreLate}

-- the machine, the number of events of each worker, whether the run must stop for want of memory, and which of
-- 16 workers wait
pub record DeskView : Type 0 where
  pub machine : MachineView
  pub counts : List ℕ
  pub is_stopped : Bool
  pub asleep : List Bool

-- what holds whenever a worker holds the lock, besides what each machine keeps
pub record IsDesk (d : DeskView) : Type 0 where
  pub some_worker : 0 < length d.counts
  pub counted : IsCounted (units_of d.machine) d.machine.history d.counts

-- the machine is that of a run over this program and certificate, with the given numbers of units and workers and this
-- budget
pub record IsOfRun (checked : Checked) (unit_count worker_count budget : ℕ) (d : DeskView) : Type 0 where
  pub accepted : d.machine.accepted ≡ checked
  pub units : units_of d.machine ≡ unit_count
  pub workers : length d.counts ≡ worker_count
  pub late : AreLate budget d.machine.history

-- no worker continues: the note is set, the run has ended, or the history has reached the budget
abbrev pub IsDone : (budget : ℕ) → DeskView → Type 0
IsDone budget d =
    (d.is_stopped ≡ true) ⊎ ((state d.machine).outcome ≡ standing.Running → ⊥) ⊎ (budget ≤ length d.machine.history)

-- no worker waits
abbrev pub nobody : List Bool
nobody = replicate 16 false

-- the run must stop
abbrev pub stopped : DeskView → DeskView
stopped d = record d { is_stopped = true }

-- nothing but the machine and the counts has changed
pub record SameNotes (old new : DeskView) : Type 0 where
  pub is_stopped : new.is_stopped ≡ old.is_stopped
  pub asleep : new.asleep ≡ old.asleep
