use Rattle.std.proofs.Common.{None, Option, Ok, ap, ◌∙◌, arith}
use Rattle.std.specs.Prelude.{nat_lt}
use Rattle.std.specs.Option.{option_or}
use Rattle.machine_model.specs.Refusals.{unless}
use Rattle.machine_model.specs.Answer.{most_events}
use Rattle.machine_model.specs.declared.event.Event.TheVariants.{Retire}
use Rattle.machine_model.specs.declared.event.Refused.{Refused}
use Rattle.machine_model.specs.declared.event.Refused.TheVariants as refused
use Rattle.processor_steps.specs.Processors.{actives}
use Rattle.processor_steps.specs.CallParts.{Does}
use Rattle.processor_steps.proofs.Growing.{log_within}
use Rattle.processor_steps.proofs.TriedSteps.{does_steps}
use Rattle.processor_steps.proofs.processor.Processor.try_retire.Goals as goal

pub retire-requires-clause-small : goal.retire-requires-clause-small
retire-requires-clause-small c = λ u at.
    let few = log_within (actives c.args.self.now.queue) 0 u at in omega (arith, c.requires.executed)

pub returns-in-Ok : goal.returns-in-Ok
returns-in-Ok c =
    let v = c.args.self.now in
    let p = c.args.program.now in
    let does : Does p v c.args.count Retire (Ok tt) c.retire.new.self = record {
      refused = c.in_ok-room_behind.ensures ∙ ap (λ (o : Option Refused). option_or o (unless (nat_lt c.args.count most_events) refused.Full None)) c.in_ok-exit.ensures.refused;
      state = c.in-Ok.ensures.state;
      kept = c.in-Ok.ensures.kept;
      err = tt;
    } in
    does_steps p v c.args.count Retire (Ok tt) c.retire.new.self does c.requires.runs c.known.ensures
