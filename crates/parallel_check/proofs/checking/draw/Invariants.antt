-- Each result is of this survey and this certificate, and each number drawn has one.
use Rattle.std.proofs.Common.{◌≡◌, length}
use Rattle.std.specs.List.{All}
use Rattle.parallel_check.proofs.checking.draw.Given as goal

abbrev pub invariant-loop : goal.invariant-loop
invariant-loop g l = All (λ f. (f.survey.now ≡ l.survey) × (f.cert.now ≡ l.cert)) l.found.items × (length l.found.items ≡ l.counter)
