-- The best attempt so far is one.
use Rattle.std.specs.Prelude.{IfSome}
use Rattle.release_proposals.specs.Paying.{IsAttempt}
use Rattle.release_proposals.proofs.releasing.best_attempt.Given as goal

abbrev pub invariant-loop-number : goal.invariant-loop-number
invariant-loop-number l = IfSome l.best (IsAttempt l.text l.said)
