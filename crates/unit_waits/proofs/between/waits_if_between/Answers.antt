-- The waits of a step, all or none.
use Rattle.std.proofs.Common.{sym, ◌∙◌}
use Rattle.sequencer.specs.Machines.{state}
use Rattle.unit_waits.proofs.SomeSteps.{gone_in, kept_in}
use Rattle.unit_waits.proofs.between.waits_if_between.Goals as goal

pub returns-then-not-is_between : goal.returns-then-not-is_between
returns-then-not-is_between c =
    let a = c.args in
    c.new.ensures.items ∙ sym (gone_in a.first a.last a.accepted.now.program a.units a.step (state a.machine.now) a.events.now
    (sym c.is_between.ensures ∙ c.if-not-is_between.true))

pub returns : goal.returns
returns c =
    let a = c.args in
    c.in_ok-waits.ensures.exact ∙ sym (kept_in a.first a.last a.accepted.now.program a.units a.step (state a.machine.now) a.events.now
    (sym c.is_between.ensures ∙ c.if-not-is_between.false))
