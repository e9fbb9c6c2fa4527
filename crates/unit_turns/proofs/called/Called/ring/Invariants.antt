use Rattle.unit_turns.proofs.Imports.{◌≡◌, ℕ, ◌<◌, Some, true}
use Rattle.std.proofs.Common.{slice_get}
use Rattle.unit_turns.proofs.called.Called.ring.Given as goal

-- the bells so far are rung
abbrev pub invariant-loop-worker : goal.invariant-loop-worker
invariant-loop-worker g l = (w : ℕ) (bell : _) → w < l.worker → slice_get l.is_called w ≡ Some true → slice_get l.bells w ≡ Some bell → g.B.Ring.is_rung bell
