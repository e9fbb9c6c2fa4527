-- The number and the name of what is wrong with a program text, and the line.
use Rattle.std.specs.Prelude.{ℕ, List, ◌++◌, codes}
use Rattle.std.specs.Fmt.{decimal}
use Rattle.task_descriptor.specs.BuildFaultText.{build_fault_text}
use Rattle.annotated_asm.specs.declared.fault.AsmFault.{AsmFault}
use Rattle.annotated_asm.specs.declared.fault.AsmFault.TheVariants.{TooLong, NotAscii, Token, Mnemonic, Operand, Number, Mark, Duplicate, Unknown, Build, OutOfMemory}

abbrev pub asm_fault_text : AsmFault → List ℕ
asm_fault_text TooLong = codes "1 TooLong"
asm_fault_text (NotAscii line) = codes "2 NotAscii line " ++ decimal line
asm_fault_text (Token line) = codes "3 Token line " ++ decimal line
asm_fault_text (Mnemonic line) = codes "4 Mnemonic line " ++ decimal line
asm_fault_text (Operand line) = codes "5 Operand line " ++ decimal line
asm_fault_text (Number line) = codes "6 Number line " ++ decimal line
asm_fault_text (Mark line) = codes "7 Mark line " ++ decimal line
asm_fault_text (Duplicate line) = codes "8 Duplicate line " ++ decimal line
asm_fault_text (Unknown line) = codes "9 Unknown line " ++ decimal line
asm_fault_text (Build fault) = codes "10 Build " ++ build_fault_text fault
asm_fault_text OutOfMemory = codes "11 OutOfMemory"
