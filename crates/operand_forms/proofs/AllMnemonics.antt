-- The law, for each mnemonic.
use Rattle.std.proofs.Common.{◌≡◌, List}
use Rattle.program_tokens.specs.declared.token.Token.{Token}
use Rattle.mips_instructions.specs.declared.instruction.Mnemonic.{Mnemonic}
use Rattle.mips_instructions.specs.declared.instruction.Mnemonic.TheVariants as mnemonic
use Rattle.program_statements.specs.Statements.{instruction_of}
use Rattle.operand_forms.specs.OperandForms.{instruction_fault, fault_of}
use Rattle.operand_forms.proofs.ByRow.{row_agrees}
use Rattle.operand_forms.proofs.ReleaseList.{release_agrees}

pub agrees : (m : Mnemonic) (operands : List Token) → fault_of (instruction_of m operands) ≡ instruction_fault m operands
agrees mnemonic.Release operands = release_agrees operands
agrees m operands = row_agrees m operands (λ e. absurd cc)
