use Rattle.std.proofs.Common.{Some, None, sym, ap, ◌∙◌}
use Rattle.std.specs.Prelude.{nat_eq}
use Rattle.unit_core.specs.Units.{active_of}
use Rattle.unit_core.specs.UnitStep.{refused_by}
use Rattle.processor_steps.specs.Processors.{QueueView, actives}
use Rattle.processor_steps.proofs.Queues.{is_there}
use Rattle.processor_steps.proofs.Outcomes.{refusal_at}
use Rattle.processor_steps.proofs.queue.Queue.exec_refusal.Goals as goal

pub returns-in-Some-wait : goal.returns-in-Some-wait
returns-in-Some-wait c =
    let x = c.in-Some.unit.now in
    let there = is_there c.self.inside.ring.items c.args.self.now c.args.position x (ap (λ (q : QueueView). actives q) c.self.view_is) c.in-Some.ensures in
    ap Some c.refused_by.ensures
    ∙ sym (refusal_at c.args.program.now (nat_eq c.args.position 0) (actives c.args.self.now) c.args.position (active_of x) (Some (refused_by c.in-Some-wait.wait)) there (sym c.in-Some-wait.ensures))

pub returns-in-None : goal.returns-in-None
returns-in-None c =
    let x = c.in-Some.unit.now in
    let there = is_there c.self.inside.ring.items c.args.self.now c.args.position x (ap (λ (q : QueueView). actives q) c.self.view_is) c.in-Some.ensures in
    sym (refusal_at c.args.program.now (nat_eq c.args.position 0) (actives c.args.self.now) c.args.position (active_of x) None there (sym c.in-None.ensures))
