-- What is wrong with a line by itself, by the assembler's faults of its tokens and its statement.
use Rattle.std.specs.Prelude.{ℕ}
use Rattle.program_tokens.specs.declared.token.LineFault.{LineFault as TokenFault}
use Rattle.program_tokens.specs.declared.token.LineFault.TheVariants as token_fault
use Rattle.program_statements.specs.declared.fault.StatementFault.{StatementFault}
use Rattle.program_statements.specs.declared.fault.StatementFault.TheVariants as statement_fault
use Rattle.annotated_asm.specs.declared.fault.AsmFault.{AsmFault}
use Rattle.annotated_asm.specs.declared.fault.AsmFault.TheVariants as fault
use Rattle.operand_forms.specs.declared.line_fault.LineFaultKind.{LineFaultKind}
use Rattle.operand_forms.specs.declared.line_fault.LineFaultKind.TheVariants as kind

abbrev pub kind_of_tokens : TokenFault → LineFaultKind
kind_of_tokens token_fault.NotAscii = kind.NotAscii
kind_of_tokens token_fault.Token = kind.Token

abbrev pub kind_of_fault : StatementFault → LineFaultKind
kind_of_fault statement_fault.Mnemonic = kind.Mnemonic
kind_of_fault statement_fault.Operand = kind.Operand
kind_of_fault statement_fault.Number = kind.Number
kind_of_fault statement_fault.Mark = kind.Mark

-- of the line with this number, as the assembler reports it
abbrev pub fault_at : (n : ℕ) → LineFaultKind → AsmFault
fault_at n kind.NotAscii = fault.NotAscii n
fault_at n kind.Token = fault.Token n
fault_at n kind.Mnemonic = fault.Mnemonic n
fault_at n kind.Operand = fault.Operand n
fault_at n kind.Number = fault.Number n
fault_at n kind.Mark = fault.Mark n
