use Rattle.std.proofs.Common.{◌≡◌, ◌+◌, refl, subst}
use Rattle.machine_model.specs.Answer.{after}
use Rattle.machine_model.specs.declared.event.Event.TheVariants.{Assign}
use Rattle.processor_steps.specs.Processors.{ProcessorView, state_of}
use Rattle.processor_steps.proofs.Changed.{assigned}
use Rattle.processor_steps.proofs.processor.Processor.assign.Goals as goal

pub returns-clause-state : goal.returns-clause-state
returns-clause-state c =
    let i = c.self.inside in
    let v : ProcessorView = record { queue = i.queue; registers = i.registers; world = i.world; next = i.next; reads = i.reads.reads; commits = i.commits.items; assigns = i.assigns } in
    let p = c.args.program.now in
    let new : ProcessorView = record v { queue = c.push.new.self; assigns = i.assigns + 1 } in
    subst (λ (x : ProcessorView). state_of new ≡ after p (state_of x) (Assign c.args.task)) c.self.view_is
    (assigned p v c.push.new.self c.args.task c.reserved-reserved.result (i.assigns + 1) c.with_room.result.port c.with_room.result c.push.ensures c.with_room.ensures.unit c.reserved-reserved.ensures c.with_room.ensures.arrived c.with_room.ensures.sent refl)
