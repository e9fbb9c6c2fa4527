-- A unit that is lent to make a burst on.
use Rattle.std.specs.Prelude.{◌≡◌, ℕ, [], length}
use Rattle.machine_model.specs.Machine.{Active}
use Rattle.machine_model.specs.Unit.{with_log}
use Rattle.unit_core.specs.Units.{active_of}
use Rattle.unit_core.specs.Bursts.{BurstView}
use Rattle.sequencer.specs.Machines.{MachineView}
use Rattle.sequencer.specs.Bursts.{IsAtWork}

-- the unit with this number, as it is at work in this machine, of its log only the length: a burst without a step on it
pub record IsLent (m : MachineView) (unit : ℕ) (b : BurstView) : Type 0 where
  pub accepted : b.accepted ≡ m.accepted
  pub no_step : b.steps ≡ 0
  pub active : Active
  pub is_at_work : IsAtWork m unit active
  pub is_it : active_of b.before ≡ with_log active []
  pub log : b.reads ≡ length active.log
