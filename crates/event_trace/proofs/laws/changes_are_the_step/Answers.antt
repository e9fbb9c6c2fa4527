-- By cases on the event.
use Rattle.event_trace.proofs.SeenSteps.{event_told}
use Rattle.event_trace.proofs.laws.changes_are_the_step.Goals as goal

pub returns : goal.returns
returns c = λ p units s s' e next. event_told p units s s' e next
