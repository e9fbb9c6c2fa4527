-- By induction on the history.
use Rattle.machine_model.specs.Machine.{opening}
use Rattle.event_trace.proofs.LivesTold.{lives_from_told}
use Rattle.event_trace.proofs.laws.lives_are_of_changes.Goals as goal

pub returns : goal.returns
returns c = λ p units history s h. lives_from_told p units c.next_is_after.ensures c.events_count.ensures history (opening p) s 0 0 h
