-- The operands of an instruction (as the MIPS assemblers write them): what stands between its commas, at
-- most three.
use Rattle.std.specs.Prelude.{ℕ, List, [], ◌∷◌, Option, Some, None, Result, Ok, Err, nat_lt, if◌then◌else◌}
use Rattle.program_tokens.specs.declared.token.Number.{Number}
use Rattle.program_tokens.specs.declared.token.Token.{Token}
use Rattle.program_tokens.specs.declared.token.Token.TheVariants as token
use Rattle.program_statements.specs.Steps.{◌>>=◌}
use Rattle.program_statements.specs.declared.fault.StatementFault.{StatementFault}
use Rattle.program_statements.specs.declared.fault.StatementFault.TheVariants as fault
use Rattle.program_statements.specs.declared.operand.Operand.{Operand}
use Rattle.program_statements.specs.declared.operand.Operand.TheVariants as operand
use Rattle.program_statements.specs.declared.operand.Operands.{Operands}
use Rattle.program_statements.specs.declared.operand.Operands.TheVariants as operands

-- a general register: HI and LO are no operands
abbrev pub general : ℕ → Result ℕ StatementFault
general r = if nat_lt r 32 then Ok r else Err fault.Operand

-- the base of an offset, as `($8)`
unfoldable pub base_at : List Token → Option (ℕ × List Token)
base_at (token.Open ∷ token.Register r ∷ token.Close ∷ rest) = if nat_lt r 32 then Some (r, rest) else None
base_at _ = None

abbrev pub number_or_offset : Number → List Token → Option (ℕ × List Token) → Operand × List Token
number_or_offset n rest None = (operand.Number n, rest)
number_or_offset n rest (Some base) = (operand.Offset n base.0, base.1)

-- the first operand of these tokens, and the tokens after it
unfoldable pub operand_at : List Token → Result (Operand × List Token) StatementFault
operand_at (token.Register r ∷ rest) = general r >>= λ r. Ok (operand.Register r, rest)
operand_at (token.Number n ∷ rest) = Ok (number_or_offset n rest (base_at rest))
operand_at (token.Name name ∷ rest) = Ok (operand.Label name, rest)
operand_at (token.Index n ∷ rest) = Ok (operand.Index n, rest)
operand_at _ = Err fault.Operand

unfoldable pub after_two : Operand → Operand → List Token → Result Operands StatementFault
after_two first second [] = Ok (operands.Two first second)
after_two first second (token.Comma ∷ rest) = do
  third ← operand_at rest
  elim third.1 [ [] ↦ Ok (operands.Three first second third.0) | t ∷ ts ↦ Err fault.Operand ]
after_two first second _ = Err fault.Operand

unfoldable pub after_one : Operand → List Token → Result Operands StatementFault
after_one first [] = Ok (operands.One first)
after_one first (token.Comma ∷ rest) = do
  second ← operand_at rest
  after_two first second.0 second.1
after_one first _ = Err fault.Operand

-- all operands
unfoldable pub operands_of : List Token → Result Operands StatementFault
operands_of [] = Ok operands.Zero
operands_of (t ∷ ts) = do
  first ← operand_at (t ∷ ts)
  after_one first.0 first.1
