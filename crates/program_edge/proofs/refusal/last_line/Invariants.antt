-- What is left decides the last line as the whole text does.
use Rattle.std.proofs.Common.{◌≡◌, length}
use Rattle.program_edge.specs.Refusals.{last_line_of}
use Rattle.program_edge.proofs.refusal.last_line.Given as goal

abbrev pub invariant-loop-rest : goal.invariant-loop-rest
invariant-loop-rest l = last_line_of l.line l.rest ≡ last_line_of l.fn.text l.fn.text

abbrev pub decreases-loop-rest : goal.decreases-loop-rest
decreases-loop-rest l = length l.rest
