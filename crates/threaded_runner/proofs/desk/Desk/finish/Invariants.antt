use Rattle.threaded_runner.proofs.Imports.{◌≡◌, ◌-◌, length}
use Rattle.threaded_runner.proofs.desk.Desk.finish.Given as goal

abbrev pub invariant-loop-self : goal.invariant-loop-self
invariant-loop-self g l = length l.self.counts ≡ length l.initial.self.counts

abbrev pub decreases-loop-self : goal.decreases-loop-self
decreases-loop-self g l = 1000001 - length l.self.machine.history
