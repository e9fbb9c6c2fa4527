-- By induction on the list of events.
use Rattle.event_trace.proofs.SeenSteps.{run_told}
use Rattle.event_trace.proofs.laws.changes_are_the_run.Goals as goal

pub returns : goal.returns
returns c = λ p units s s' events h. run_told p units c.next_is_after.ensures events s s' h
