-- The jump comes back to behind calls so far.
use Rattle.call_returns.specs.Returns.{ComesBack}
use Rattle.call_returns.proofs.returns.Seen.add_ways.Given as goal

abbrev pub invariant-loop-way : goal.invariant-loop-way
invariant-loop-way l = ComesBack l.self.program.now l.jump
