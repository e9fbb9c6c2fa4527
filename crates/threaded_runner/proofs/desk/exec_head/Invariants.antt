use Rattle.threaded_runner.proofs.Imports.{replicate, Exec, SameRing, RunsHead}
use Rattle.std.specs.Prelude.{◌≡◌, ◌++◌}
use Rattle.threaded_runner.proofs.desk.exec_head.Given as goal

-- this many instructions were executed
abbrev pub invariant-loop-steps : goal.invariant-loop-steps
invariant-loop-steps g l = record {
  ran : RunsHead l.initial.machine l.steps l.machine;
  history : l.machine.history ≡ l.initial.machine.history ++ replicate l.steps (Exec 0);
  kept : SameRing l.initial.machine l.machine;
}
