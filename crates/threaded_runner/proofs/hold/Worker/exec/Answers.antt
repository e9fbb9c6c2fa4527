use Rattle.threaded_runner.proofs.Imports.{◌≡◌, ℕ, ◌<◌, inl, sym, ap, subst, arith, Exec, MachineView, units_of, unit_for, Share, IsStoppedAt, RunsHead}
use Rattle.threaded_runner.proofs.Going.{runs_are_turns}
use Rattle.threaded_runner.proofs.hold.Worker.exec.Goals as goal

pub returns-in-Some-eq0-clause-turns : goal.returns-in-Some-eq0-clause-turns
returns-in-Some-eq0-clause-turns g c =
    let units = ap (λ (s : Share). s.units) c.share.ensures.value in
    let machine = ap (λ (m : MachineView). units_of m) c.machine.ensures.machine in
    let some : 0 < units_of c.args.desk.now.machine = omega (arith, c.requires.served.on_ring, units, machine, c.share.ensures.of_run.of_units, c.machine.ensures.units) in
    let belongs : unit_for c.args.desk.now.machine (Exec 0) ≡ c.args.unit =
    subst (λ (m : MachineView). unit_for m (Exec 0) ≡ c.args.unit) c.machine.ensures.machine
    (subst (λ (k : ℕ). unit_for c.machine.result.now (Exec k) ≡ c.args.unit) c.in-Some-eq0.field-0-test c.in-Some-eq0.ensures.position.1) in
    runs_are_turns c.args.self.now.share c.args.unit c.args.desk.now c.run_head.new.self c.run_head.result some c.requires.served belongs c.run_head.ensures.room c.run_head.ensures.ran

pub returns-in-Some-eq0-clause-executes : goal.returns-in-Some-eq0-clause-executes
returns-in-Some-eq0-clause-executes g c = λ some.
    let belongs : unit_for c.args.desk.now.machine (Exec 0) ≡ c.args.unit =
    subst (λ (m : MachineView). unit_for m (Exec 0) ≡ c.args.unit) c.machine.ensures.machine
    (subst (λ (k : ℕ). unit_for c.machine.result.now (Exec k) ≡ c.args.unit) c.in-Some-eq0.field-0-test c.in-Some-eq0.ensures.position.1) in
    inl (belongs, c.run_head.ensures.ran)

pub returns-in-Some-eq0-clause-none : goal.returns-in-Some-eq0-clause-none
returns-in-Some-eq0-clause-none g c = λ zero.
    let belongs : unit_for c.args.desk.now.machine (Exec 0) ≡ c.args.unit =
    subst (λ (m : MachineView). unit_for m (Exec 0) ≡ c.args.unit) c.machine.ensures.machine
    (subst (λ (k : ℕ). unit_for c.machine.result.now (Exec k) ≡ c.args.unit) c.in-Some-eq0.field-0-test c.in-Some-eq0.ensures.position.1) in
    let same : c.run_head.new.self.machine ≡ c.args.desk.now.machine = subst (λ (n : ℕ). RunsHead c.args.desk.now.machine n c.run_head.new.self.machine) zero c.run_head.ensures.ran in
    let less : c.run_head.result < c.args.most = subst (λ (n : ℕ). n < c.args.most) (sym zero) c.requires.some in
    (same, (0, belongs, subst (λ (m : MachineView). IsStoppedAt g.J.Deeds.was_asked m (Exec 0)) same (c.run_head.ensures.until less)))
