use Rattle.std.proofs.Common.{◌≡◌, ℕ, Option, sym, ap, ◌∙◌, unwrap_or}
use Rattle.machine_model.specs.Machine.{Active}
use Rattle.machine_model.specs.Unit.{drain_refusal, after_drain, operand}
use Rattle.unit_core.specs.Units.{active_of}
use Rattle.processor_steps.specs.Processors.{QueueView, actives}
use Rattle.processor_steps.proofs.Queues.{unit_is, changed}
use Rattle.processor_steps.proofs.Outcomes.{sent_ok}
use Rattle.processor_steps.proofs.queue.Queue.send.Goals as goal

pub returns-clause-active : goal.returns-clause-active
returns-clause-active c = λ u at may.
    let items = c.self.inside.ring.items in
    let same = ap (λ (q : QueueView). actives q) c.self.view_is in
    let x = c.in-Some.unit.now in
    let p = c.args.program.now in
    let r = c.args.register in
    let is : active_of x ≡ u = unit_is items c.args.self.now c.args.position x u same c.in-Some.ensures.value at in
    let done = sent_ok c.drain.result p (active_of x) (active_of c.drain.new.self) r _ c.drain.ensures (ap (λ (v : Active). drain_refusal p v r) is ∙ may) in
    changed items c.args.self.now c.args.position c.drain.new.self (after_drain u r (operand u r)) same
    (done.is
    ∙ ap (λ (o : Option ℕ). after_drain (active_of x) r (unwrap_or o 0)) (sym done.has_word)
    ∙ ap (λ (v : Active). after_drain v r (operand v r)) is)
