-- Who is to be rung for when the lock is let go.
use Rattle.std.specs.Prelude.{◌≡◌, ℕ, ◌<◌, ◌⊎◌, List, Bool, true, slice_get, Some}
use Rattle.threaded_runner.specs.declared.share.Share.{Share}
use Rattle.threaded_runner.specs.Desks.{DeskView, IsDone}
use Rattle.threaded_runner.specs.Shares.{AllWait}

-- a worker waits asleep
abbrev pub IsAsleep : List Bool → (worker : ℕ) → Type 0
IsAsleep asleep worker = slice_get asleep worker ≡ Some true

-- of all workers but this one, none is asleep that has something to do: a turn, or the end of the run
abbrev pub AreCalled : (budget : ℕ) → Share → DeskView → Type 0
AreCalled budget own d =
    (worker : ℕ) → worker < own.workers → (worker ≡ own.worker → ⊥) → IsAsleep d.asleep worker
    → (IsDone budget d → ⊥) × AllWait d.machine (record own { worker = worker })

-- each worker that was asleep and is not any longer is among those whose bell is to be rung
abbrev pub AreRung : (before after called : List Bool) → Type 0
AreRung before after called =
    (worker : ℕ) → IsAsleep before worker → (IsAsleep after worker → ⊥) → slice_get called worker ≡ Some true

-- a worker has something to do: the run is over, or one of its units has a turn
abbrev pub HasWork : (budget : ℕ) → Share → DeskView → Type 0
HasWork budget s d = IsDone budget d ⊎ (AllWait d.machine s → ⊥)

-- of all workers but this one, the bell of each that is asleep and has something to do is rung; `is_rung` says so of a
-- bell
abbrev pub AreRungFor : {B : Type 0} → (is_rung : B → Type 0) → (budget : ℕ) → Share → DeskView → List B → Type 0
AreRungFor {B} is_rung budget own d bells =
    (worker : ℕ) (bell : B) → worker < own.workers → (worker ≡ own.worker → ⊥) → IsAsleep d.asleep worker
    → HasWork budget (record own { worker = worker }) d → slice_get bells worker ≡ Some bell → is_rung bell
