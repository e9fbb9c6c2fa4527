-- What was made, in front of what is left, is what the whole list gives.
use Rattle.std.proofs.Common.{◌≡◌, drop}
use Rattle.program_statements.specs.Statements.{bytes_of}
use Rattle.program_statements.proofs.Fronts.{with_front}
use Rattle.program_statements.proofs.list.bytes_of.Given as goal

abbrev pub invariant-loop-number : goal.invariant-loop-number
invariant-loop-number l = with_front l.bytes.items (bytes_of (drop l.number-index l.numbers)) ≡ bytes_of l.numbers
