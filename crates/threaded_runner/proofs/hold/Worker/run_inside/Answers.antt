use Rattle.threaded_runner.proofs.Imports.{◌<◌, length, sym, ap, ◌∙◌, subst, arith, refl, Exec, MachineView, state, units_of, unit_for, Share, IsShareOf}
use Rattle.threaded_runner.proofs.Going.{runs_are_turns, fewer_turns}
use Rattle.threaded_runner.proofs.Sharing.{head_served, at_work}
use Rattle.threaded_runner.proofs.hold.Worker.run_inside.Goals as goal

pub returns-in-Some-Inside-clause-turns : goal.returns-in-Some-Inside-clause-turns
returns-in-Some-Inside-clause-turns g c =
    let s = c.args.self.now.share in
    let m = c.args.desk.now.machine in
    let there : 0 < length (state c.machine-2.result.now).queue = at_work (state c.machine-2.result.now).queue c.in-Some-Inside.field-0 c.in-Some-Inside.ensures in
    let queue = ap (λ (x : MachineView). length (state x).queue) (c.machine-2.ensures.machine ∙ sym c.machine.ensures.machine) in
    let ring = ap (λ (x : MachineView). units_of x) c.machine.ensures.machine in
    let some : 0 < units_of m = omega (arith, there, queue, ring, c.law_ring.ensures) in
    let of_run : IsShareOf g.J.Naming.units g.J.Naming.workers s = subst (λ (x : Share). IsShareOf g.J.Naming.units g.J.Naming.workers x) c.share.ensures.value c.share.ensures.of_run in
    let served = head_served m s g.J.Naming.units g.J.Naming.workers (sym ring ∙ c.machine.ensures.units) of_run c.requires some in
    fewer_turns s c.run_head.result 0 c.args.desk.now c.run_head.new.self (omega arith)
    (runs_are_turns s (unit_for m (Exec 0)) c.args.desk.now c.run_head.new.self c.run_head.result some served refl c.run_head.ensures.room c.run_head.ensures.ran)
