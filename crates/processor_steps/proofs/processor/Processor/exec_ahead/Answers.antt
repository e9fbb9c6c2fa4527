use Rattle.std.proofs.Common.{◌≡◌, ◌<◌, refl, ap, ◌∙◌, subst, arith}
use Rattle.machine_model.specs.Answer.{most_events}
use Rattle.machine_model.specs.declared.event.Event.TheVariants.{Exec}
use Rattle.machine_model.specs.declared.event.Standing.TheVariants.{Running}
use Rattle.processor_steps.specs.Processors.{QueueView, ProcessorView, Steps}
use Rattle.processor_steps.proofs.Executions.{LeavesRest, ahead_tried, on_err, not_zero}
use Rattle.processor_steps.proofs.processor.Processor.exec_ahead.Goals as goal

pub returns : goal.returns
returns c =
    let i = c.self.inside in
    let v : ProcessorView = record { queue = i.queue; registers = i.registers; world = i.world; next = i.next; reads = i.reads.reads; commits = i.commits.items; assigns = i.assigns } in
    let new : ProcessorView = record v { queue = c.exec_ahead.new.self } in
    let p = c.args.program.now in
    let room : c.args.count < most_events = omega arith in
    let behind : 0 < c.args.position = c.requires.behind in
    let runs : v.world.outcome ≡ Running = ap (λ (x : ProcessorView). x.world.outcome) c.self.view_is ∙ c.requires.runs in
    let rest : LeavesRest v new = record { registers = refl; next = refl; reads = refl; commits = refl; assigns = refl; capacity = c.exec_ahead.ensures.capacity } in
    let err = on_err c.exec_ahead.result (c.exec_ahead.new.self ≡ i.queue) (new ≡ v) c.exec_ahead.ensures.err (λ e. ap (λ (q : QueueView). record v { queue = q }) e) in
    subst (λ (x : ProcessorView). Steps p x c.args.count (Exec c.args.position) c.exec_ahead.result new) c.self.view_is
    (ahead_tried c.bursts_are_events.ensures p v new c.args.count c.args.position c.exec_ahead.result room (not_zero c.args.position behind) runs rest refl c.exec_ahead.ensures.ok c.exec_ahead.ensures.refused err)
