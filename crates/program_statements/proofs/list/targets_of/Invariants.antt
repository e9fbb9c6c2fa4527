-- What was made, in front of what is left, is what the whole list gives.
use Rattle.std.proofs.Common.{◌≡◌, drop}
use Rattle.program_statements.specs.Statements.{targets_of}
use Rattle.program_statements.proofs.Fronts.{with_front}
use Rattle.program_statements.proofs.list.targets_of.Given as goal

abbrev pub invariant-loop-place : goal.invariant-loop-place
invariant-loop-place l = with_front l.targets.items (targets_of (drop l.place-index l.places)) ≡ targets_of l.places
