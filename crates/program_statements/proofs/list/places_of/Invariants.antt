-- What was read, in front of what is left, is what all the tokens say.
use Rattle.std.proofs.Common.{◌≡◌, length}
use Rattle.program_statements.specs.Statements.{places_of}
use Rattle.program_statements.proofs.Fronts.{with_front}
use Rattle.program_statements.proofs.list.places_of.Given as goal

abbrev pub invariant-loop-rest : goal.invariant-loop-rest
invariant-loop-rest l = with_front l.places.items (places_of l.rest) ≡ places_of l.tokens

abbrev pub decreases-loop-rest : goal.decreases-loop-rest
decreases-loop-rest l = length l.rest
