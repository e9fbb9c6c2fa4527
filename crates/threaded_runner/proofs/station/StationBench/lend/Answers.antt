use Rattle.threaded_runner.proofs.Imports.{◌≡◌, rules, sym, subst, IsAtWork, MachineView}
use Rattle.std.specs.Sync.Mutex.{mutex_guard_value}
use Rattle.threaded_runner.proofs.station.StationBench.lend.Goals as goal

pub returns-clause-none : goal.returns-clause-none
returns-clause-none g c = λ fails u at.
    let same : c.machine.result.now ≡ (mutex_guard_value c.args.held.desk).machine = search rules in
    c.lend-is_lent.ensures.none fails u (subst (λ (m : MachineView). IsAtWork m c.args.unit u) (sym same) at)
