use Rattle.threaded_runner.proofs.Counting.{retired_is, active_is}
use Rattle.threaded_runner.proofs.laws.history_counts.Goals as goal

pub returns : goal.returns
returns c = λ p units history s h. (
  retired_is c.events_count.ensures p units history s h,
  active_is c.events_count.ensures p units history s h,
)
