use Rattle.std.proofs.Common.{◌≡◌, List, ap, ◌∙◌}
use Rattle.std.specs.Prelude.{slice_set}
use Rattle.unit_core.specs.Units.{UnitView, active_of}
use Rattle.unit_core.specs.Bursts.{carried_on}
use Rattle.processor_steps.specs.Processors.{QueueView, actives}
use Rattle.processor_steps.proofs.Queues.{unit_is, changed, set_back}
use Rattle.processor_steps.proofs.queue.Queue.take.Goals as goal

pub returns-in-Ok-clause-active : goal.returns-in-Ok-clause-active
returns-in-Ok-clause-active c = λ u at.
    let items = c.self.inside.ring.items in
    let same = ap (λ (q : QueueView). actives q) c.self.view_is in
    let x = c.in-Some.unit.now in
    let after = active_of c.args.burst.now.after in
    let is : active_of x ≡ u = unit_is items c.args.self.now c.args.position x u same c.in-Some.ensures.value at in
    changed items c.args.self.now c.args.position c.go_on_from.new.self (carried_on after u) same
    (c.in-Ok.ensures.ok ∙ ap (carried_on after) is)

pub returns-in-Err-clause-err : goal.returns-in-Err-clause-err
returns-in-Err-clause-err c =
    let items = c.self.inside.ring.items in
    let x = c.in-Some.unit.now in
    let queue_of : List UnitView → QueueView = λ us. record { units = us; capacity = c.self.inside.ring.capacity } in
    let same = ap (λ (us : List UnitView). queue_of us) (ap (λ (v : UnitView). slice_set items c.args.position v) c.in-Err.ensures.err.0 ∙ set_back items c.args.position x c.in-Some.ensures.value) ∙ c.self.view_is in
    (same, c.in-Err.ensures.err.1)
