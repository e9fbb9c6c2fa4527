-- The set so far, with the registers that are left, is the whole set.
use Rattle.std.proofs.Common.{◌≡◌, length, Ok}
use Rattle.program_statements.specs.Steps.{◌>>=◌}
use Rattle.program_statements.specs.Statements.{registers_at, registers_of, with_registers}
use Rattle.program_statements.proofs.list.registers_at.Given as goal

abbrev pub invariant-loop-rest : goal.invariant-loop-rest
invariant-loop-rest l = (registers_of l.rest >>= λ x. Ok (with_registers l.set x.0, x.1)) ≡ registers_at l.tokens

abbrev pub decreases-loop-rest : goal.decreases-loop-rest
decreases-loop-rest l = length l.rest
