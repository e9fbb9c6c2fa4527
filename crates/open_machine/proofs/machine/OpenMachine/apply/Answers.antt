use Rattle.std.proofs.Common.{◌+◌, refl}
use Rattle.open_machine.specs.Machines.{OpenView}
use Rattle.open_machine.proofs.Applied.{stays_open}
use Rattle.open_machine.proofs.machine.OpenMachine.apply.Goals as goal

pub invariant_of-self-2 : goal.invariant_of-self-2
invariant_of-self-2 c =
    let i = c.self.inside in
    let m : OpenView = record { program = i.program.now; processor = i.processor; count = i.count } in
    stays_open m c.args.event.now c.in_ok-step.field-0 c.step.new.self (i.count + 1) c.self.invariant c.in_ok-step.ensures refl
