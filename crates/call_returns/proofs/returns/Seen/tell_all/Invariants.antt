-- The jumps so far.
use Rattle.std.specs.List.{All}
use Rattle.call_returns.specs.Returns.{IsTold}
use Rattle.call_returns.proofs.returns.Seen.tell_all.Given as goal

abbrev pub invariant-loop-site : goal.invariant-loop-site
invariant-loop-site l = All (IsTold l.self.program.now) l.told.items
