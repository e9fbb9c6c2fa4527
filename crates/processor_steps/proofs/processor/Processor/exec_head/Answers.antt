use Rattle.std.proofs.Common.{◌≡◌, ◌<◌, refl, ap, ◌∙◌, subst, arith}
use Rattle.machine_model.specs.Answer.{most_events}
use Rattle.machine_model.specs.declared.event.Event.TheVariants.{Exec}
use Rattle.machine_model.specs.declared.event.Standing.TheVariants.{Running}
use Rattle.processor_steps.specs.Processors.{ProcessorView, Steps}
use Rattle.processor_steps.proofs.Executions.{LeavesRest, head_tried, on_err}
use Rattle.processor_steps.proofs.processor.Processor.exec_head.Goals as goal

pub returns : goal.returns
returns c =
    let i = c.self.inside in
    let v : ProcessorView = record { queue = i.queue; registers = i.registers; world = i.world; next = i.next; reads = i.reads.reads; commits = i.commits.items; assigns = i.assigns } in
    let new : ProcessorView = record v { queue = c.exec_head.new.self; world = c.exec_head.new.world } in
    let p = c.args.program.now in
    let room : c.args.count < most_events = omega arith in
    let runs : v.world.outcome ≡ Running = ap (λ (x : ProcessorView). x.world.outcome) c.self.view_is ∙ c.requires.runs in
    let rest : LeavesRest v new = record { registers = refl; next = refl; reads = refl; commits = refl; assigns = refl; capacity = c.exec_head.ensures.capacity } in
    let err = on_err c.exec_head.result ((c.exec_head.new.self ≡ i.queue) × (c.exec_head.new.world ≡ i.world)) (new ≡ v) c.exec_head.ensures.err (λ e. λ j. record v { queue = e.0 j; world = e.1 j }) in
    subst (λ (x : ProcessorView). Steps p x c.args.count (Exec 0) c.exec_head.result new) c.self.view_is
    (head_tried p v new c.args.count c.exec_head.result room runs rest c.exec_head.ensures.ok c.exec_head.ensures.refused err)
