use Rattle.std.proofs.Common.{Option, Some, ap, ◌∙◌}
use Rattle.std.specs.Option.{option_or}
use Rattle.machine_model.specs.Answer.{refusal}
use Rattle.machine_model.specs.declared.event.Event.TheVariants.{Exec}
use Rattle.machine_model.specs.declared.event.Refused.{Refused}
use Rattle.machine_model.specs.declared.event.Refused.TheVariants as refused
use Rattle.processor_steps.specs.Processors.{ProcessorView, state_of}
use Rattle.processor_steps.proofs.processor.Processor.exec_when_full.Goals as goal

pub returns-in-Some : goal.returns-in-Some
returns-in-Some c =
    let p = c.args.program.now in
    let v = c.args.self.now in
    ap (λ (o : Option Refused). option_or o (Some refused.Full))
    (c.in-Some.ensures ∙ ap (λ (x : ProcessorView). refusal p v.queue.capacity (state_of x) (Exec c.args.position)) c.self.view_is)
