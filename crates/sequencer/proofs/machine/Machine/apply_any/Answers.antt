-- The processor took the event, and the history has it after the others.
use Rattle.std.proofs.Common.{Ok, subst}
use Rattle.task_descriptor.specs.Listing.{Listing}
use Rattle.processor_steps.specs.Processors.{Steps}
use Rattle.sequencer.specs.Machines.{MachineView}
use Rattle.sequencer.proofs.Machines.{pushed}
use Rattle.sequencer.proofs.machine.Machine.apply_any.Goals as goal

pub invariant_of-self-2 : goal.invariant_of-self-2
invariant_of-self-2 c =
    let i = c.self.inside in
    let m : MachineView = record { accepted = i.accepted.now; processor = i.processor; history = i.history } in
    let steps = subst (λ (p : Listing). Steps p i.processor c.length-count.result c.args.event (Ok tt) c.step.new.self) c.program.ensures.value c.in_ok-step.ensures in
    pushed c.args.self.now m c.length-count.result c.args.event c.step.new.self c.push.new.self c.self.view_is c.law_replay.ensures.applied c.length-count.ensures steps c.push.ensures
