-- How the run stands is how its machine stands; what was written last comes after the rest.
use Rattle.std.proofs.Common.{◌++◌, ◌∙◌, ap}
use Rattle.std.proofs.KnownBytes.{Appends-trans}
use Rattle.machine_model.specs.Machine.{State}
use Rattle.event_trace.proofs.streaming.stream_trace.Goals as goal

pub returns-clause-standing : goal.returns-clause-standing
returns-clause-standing g c = c.in_ok-end.ensures.standing ∙ ap (λ (s : State). s.outcome) c.in_ok-machine.ensures.machine

pub returns-in_err-pass_on-clause-grows : goal.returns-in_err-pass_on-clause-grows
returns-in_err-pass_on-clause-grows g c =
    let before = c.stream_events.ensures.grows in
    let last = c.pass_on.ensures in
    (before.0 ++ last.0, Appends-trans _ _ _ before.0 last.0 before.1 last.1)

pub returns-clause-grows : goal.returns-clause-grows
returns-clause-grows g c =
    let before = c.stream_events.ensures.grows in
    let last = c.pass_on.ensures in
    (before.0 ++ last.0, Appends-trans _ _ _ before.0 last.0 before.1 last.1)
