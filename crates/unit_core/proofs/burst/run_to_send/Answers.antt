-- Each step makes the burst one longer, also the one after which it ends, which alone sends anew.
use Rattle.std.proofs.Common.{◌∙◌, arith, inr, refl, sym}
use Rattle.std.proofs.lemmas.Bool.{false≢true}
use Rattle.unit_core.specs.Units.{active_of}
use Rattle.unit_core.specs.Bursts.{HasSentTheSame}
use Rattle.unit_core.proofs.BurstLemmas.{none_made, steps_on, one_sends}
use Rattle.unit_core.proofs.burst.run_to_send.Goals as goal

pub loop-steps-init : goal.loop-steps-init
loop-steps-init c = record {
  made = none_made c.args.program.now c.args.unit.now c.requires;
  sent = λ r. sym (c.sent_set-sent.ensures r);
  sends_last = λ n is. absurd (omega arith);
}

pub loop-steps-preserved : goal.loop-steps-preserved
loop-steps-preserved c =
    let p = c.args.program.now in
    let mid = c.loop-steps.unit in
    let same : HasSentTheSame (active_of mid) (active_of c.args.unit.now) = λ r. c.loop-steps.invariant.sent r ∙ c.sent_set-sent.ensures r in
    record {
      made = steps_on p c.args.unit.now mid c.exec_ahead.new.self c.loop-steps.steps c.loop-steps.invariant.made c.in_default.ensures.step;
      sent = c.has_sent.ensures.0 c.if-not-has_sent.false;
      sends_last = one_sends p c.args.unit.now mid c.loop-steps.steps c.loop-steps.invariant.made same;
    }

pub returns-then-not-has_sent-clause-made : goal.returns-then-not-has_sent-clause-made
returns-then-not-has_sent-clause-made c =
    steps_on c.args.program.now c.args.unit.now c.loop-steps.unit c.exec_ahead.new.self c.loop-steps.steps c.loop-steps.invariant.made c.in_default.ensures.step

pub returns-then-not-has_sent-clause-sends_last : goal.returns-then-not-has_sent-clause-sends_last
returns-then-not-has_sent-clause-sends_last c =
    let mid = c.loop-steps.unit in
    let same : HasSentTheSame (active_of mid) (active_of c.args.unit.now) = λ r. c.loop-steps.invariant.sent r ∙ c.sent_set-sent.ensures r in
    one_sends c.args.program.now c.args.unit.now mid c.loop-steps.steps c.loop-steps.invariant.made same

pub returns-then-not-has_sent-clause-ends : goal.returns-then-not-has_sent-clause-ends
returns-then-not-has_sent-clause-ends c =
    inr (refl, λ same. false≢true (sym c.if-not-has_sent.true ∙ c.has_sent.ensures.1 (λ r. same r ∙ sym (c.sent_set-sent.ensures r))))
