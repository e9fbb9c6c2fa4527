-- The jump comes back to behind calls so far.
use Rattle.call_returns.specs.Returns.{ComesBack}
use Rattle.call_returns.proofs.returns.Seen.add_returns.Given as goal

abbrev pub invariant-loop-call : goal.invariant-loop-call
invariant-loop-call l = ComesBack l.self.program.now l.jump
