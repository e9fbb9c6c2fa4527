use Rattle.std.specs.Prelude.{ℕ}
use Rattle.threaded_runner.proofs.Imports.{IsInPlace, IsMadeAway, RoundsFor}
use Rattle.threaded_runner.proofs.serving.serve_rounds.Given as goal

-- some rounds were gone through
abbrev pub invariant-loop : goal.invariant-loop
invariant-loop g l = record {
  rounds : (n : ℕ) × RoundsFor g.B.Bench.holds
      (IsMadeAway g.B.Bench.number g.B.Bench.lends g.B.Bench.lacks g.B.Bench.hands_in g.W.Watcher.is_before g.W.Watcher.is_after g.B.Bench.was_made)
      (IsInPlace g.B.Bench.number g.B.Bench.runs g.W.Watcher.is_before g.W.Watcher.is_after)
      n l.initial.bench l.initial.watcher l.initial.held l.bench l.watcher l.held;
}
