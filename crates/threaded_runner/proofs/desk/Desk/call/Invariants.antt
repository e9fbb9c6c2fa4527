use Rattle.threaded_runner.proofs.Imports.{slice_get, AllWait}
use Rattle.std.specs.Prelude.{◌≡◌, ℕ, ◌<◌, ◌≤◌, Some, true, false}
use Rattle.threaded_runner.specs.Calls.{IsAsleep}
use Rattle.threaded_runner.proofs.desk.Desk.call.Given as goal

-- those before this worker are called as they must be, and those from it on are as they were
abbrev pub invariant-loop-worker : goal.invariant-loop-worker
invariant-loop-worker g l = record {
  others : l.self ≡ record l.initial.self { asleep = l.self.asleep };
  mine : (w : ℕ) → w < l.worker → IsAsleep l.self.asleep w → (l.is_over ≡ false) × AllWait l.initial.self.machine (record l.share { worker = w });
  rest : (w : ℕ) → l.worker ≤ w → slice_get l.self.asleep w ≡ slice_get l.initial.self.asleep w;
  rung : (w : ℕ) → w < l.worker → IsAsleep l.initial.self.asleep w → (IsAsleep l.self.asleep w → ⊥) → slice_get l.called w ≡ Some true;
}
