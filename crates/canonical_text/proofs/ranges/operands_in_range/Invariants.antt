-- The operands so far are in range.
use Rattle.canonical_text.proofs.Imports.{take, All, IsOperandInRange}
use Rattle.canonical_text.proofs.ranges.operands_in_range.Given as goal

abbrev pub invariant-loop-operand : goal.invariant-loop-operand
invariant-loop-operand l = All IsOperandInRange (take l.operand-index l.operands)
