-- What was sent stays as it was, so it makes no difference that those registers are left out.
use Rattle.std.specs.Prelude.{◌≡◌, ℕ, Bool, not, ◌&&◌, is_some}
use Rattle.std.proofs.Common.{ap, ◌∙◌}
use Rattle.mips_instructions.specs.Words.{has}
use Rattle.machine_model.specs.Machine.{value_in}
use Rattle.register_ring.specs.Held.{pairs}
use Rattle.register_ring.specs.Ports.{arrived_of, sent_of}
use Rattle.unit_core.proofs.StepLemmas.{none_sent, rest_sent}
use Rattle.unit_core.proofs.step.send_unsent.Goals as goal

pub returns-then-not-is_empty-clause-sent : goal.returns-then-not-is_empty-clause-sent
returns-then-not-is_empty-clause-sent c =
    let set = has c.args.set in
    let sent = sent_of c.args.port.now in
    let is_rest : (r : ℕ) → has c.minus-unsent.result r ≡ (set r && not (is_some (sent r))) =
    λ r. c.minus-unsent.ensures.members r ∙ ap (λ (b : Bool). set r && not b) (c.sent_set.ensures.members r) in
    c.send_each.ensures.sent
    ∙ rest_sent set (has c.minus-unsent.result) (value_in (pairs c.args.local.now) (arrived_of c.args.port.now)) sent is_rest

pub returns-else-not-is_empty-clause-sent : goal.returns-else-not-is_empty-clause-sent
returns-else-not-is_empty-clause-sent c =
    let set = has c.args.set in
    let sent = sent_of c.args.port.now in
    let values = value_in (pairs c.args.local.now) (arrived_of c.args.port.now) in
    let is_rest : (r : ℕ) → has c.minus-unsent.result r ≡ (set r && not (is_some (sent r))) =
    λ r. c.minus-unsent.ensures.members r ∙ ap (λ (b : Bool). set r && not b) (c.sent_set.ensures.members r) in
    none_sent (has c.minus-unsent.result) values sent (c.is_empty.ensures.members.0 c.if-not-is_empty.false)
    ∙ rest_sent set (has c.minus-unsent.result) values sent is_rest
