-- Worked examples of the statements, computed by the checker: the tokens of a line, and what they mean.
use Rattle.std.specs.Prelude.{◌≡◌, pos, negsuc, true, [], ◌∷◌, Ok, Err, codes, refl}
use Rattle.mips_instructions.specs.declared.instruction.Op.TheVariants.{Imm, ShiftBy, Logic, Load, Release}
use Rattle.mips_instructions.specs.declared.instruction.ImmKind.TheVariants.{Addiu}
use Rattle.mips_instructions.specs.declared.instruction.ShiftByKind.TheVariants.{Sll}
use Rattle.mips_instructions.specs.declared.instruction.LogicKind.TheVariants.{Ori}
use Rattle.mips_instructions.specs.declared.instruction.LoadKind.TheVariants.{Lw}
use Rattle.task_descriptor.specs.declared.descriptor.Stop.TheVariants as stop
use Rattle.program_tokens.specs.declared.token.Token.TheVariants.{Name, Register, Number, Index, Directive, Mark, Comma, Open, Close, Equals, Minus}
use Rattle.program_tokens.specs.declared.token.Number.TheVariants.{Small}
use Rattle.program_tokens.specs.declared.token.Directive.TheVariants as directive
use Rattle.program_tokens.specs.declared.token.Mark.TheVariants as mark
use Rattle.program_statements.specs.declared.fault.StatementFault.TheVariants as fault
use Rattle.program_statements.specs.declared.statement.Section.TheVariants.{Text, Data, Rodata}
use Rattle.program_statements.specs.declared.statement.Target.TheVariants as target
use Rattle.program_statements.specs.declared.statement.Instruction.TheVariants as instruction
use Rattle.program_statements.specs.declared.statement.Statement.TheVariants as statement
use Rattle.program_statements.specs.Operands.{base_at, operand_at, after_one, after_two, operands_of}
use Rattle.program_statements.specs.Rows.{imm, shift_by, logic, load, out}
use Rattle.program_statements.specs.Statements.{registers_of, registers_at, numbers_of, places_of, targets_of, words_of, bytes_of, word_statement, byte_statement, task_of, release_of, no_marks, statement_of}

-- `addiu $8,$9,-32768 !f !s`, the least number that it may have
pub an_instruction : statement_of Text (Name (codes "addiu") ∷ Register 8 ∷ Comma ∷ Register 9 ∷ Comma ∷ Number (Small (negsuc 32767)) ∷ Mark mark.Forward ∷ Mark mark.Always ∷ [])
    ≡ Ok (statement.Code (instruction.One (Imm Addiu 8 9 (negsuc 32767))) (record { forward = true; stop = stop.Always }))
unfolding operands_of after_one after_two operand_at base_at imm
an_instruction = refl

-- `addiu $8,$9,32768`
pub too_high : statement_of Text (Name (codes "addiu") ∷ Register 8 ∷ Comma ∷ Register 9 ∷ Comma ∷ Number (Small (pos 32768)) ∷ []) ≡ Err fault.Number
unfolding operands_of after_one after_two operand_at base_at imm
too_high = refl

-- `ori $8,$9,65535`, and -1 in its place: a logical number has no sign
pub no_sign : statement_of Text (Name (codes "ori") ∷ Register 8 ∷ Comma ∷ Register 9 ∷ Comma ∷ Number (Small (pos 65535)) ∷ [])
    ≡ Ok (statement.Code (instruction.One (Logic Ori 8 9 65535)) no_marks)
unfolding operands_of after_one after_two operand_at base_at logic
no_sign = refl

pub a_sign : statement_of Text (Name (codes "ori") ∷ Register 8 ∷ Comma ∷ Register 9 ∷ Comma ∷ Number (Small (negsuc 0)) ∷ []) ≡ Err fault.Number
unfolding operands_of after_one after_two operand_at base_at logic
a_sign = refl

-- `sll $8,$9,31` and 32
pub whole_shift : statement_of Text (Name (codes "sll") ∷ Register 8 ∷ Comma ∷ Register 9 ∷ Comma ∷ Number (Small (pos 31)) ∷ [])
    ≡ Ok (statement.Code (instruction.One (ShiftBy Sll 8 9 31)) no_marks)
unfolding operands_of after_one after_two operand_at base_at shift_by
whole_shift = refl

pub too_far : statement_of Text (Name (codes "sll") ∷ Register 8 ∷ Comma ∷ Register 9 ∷ Comma ∷ Number (Small (pos 32)) ∷ []) ≡ Err fault.Number
unfolding operands_of after_one after_two operand_at base_at shift_by
too_far = refl

-- `lw $8,-4($29)`
pub a_load : statement_of Text (Name (codes "lw") ∷ Register 8 ∷ Comma ∷ Number (Small (negsuc 3)) ∷ Open ∷ Register 29 ∷ Close ∷ [])
    ≡ Ok (statement.Code (instruction.One (Load Lw 8 29 (negsuc 3))) no_marks)
unfolding operands_of after_one after_two operand_at base_at load
a_load = refl

-- `out $hi`: HI is no operand
pub high_half : statement_of Text (Name (codes "out") ∷ Register 32 ∷ []) ≡ Err fault.Operand
unfolding operands_of after_one operand_at out
high_half = refl

-- `release $1,$3,$1`: bits 1 and 3
pub released : statement_of Text (Name (codes "release") ∷ Register 1 ∷ Comma ∷ Register 3 ∷ Comma ∷ Register 1 ∷ [])
    ≡ Ok (statement.Code (instruction.One (Release 10)) no_marks)
unfolding release_of registers_at registers_of
released = refl

-- `addiu $8,99999 !f !f`: the operands come first
pub operands_first : statement_of Text (Name (codes "addiu") ∷ Register 8 ∷ Comma ∷ Number (Small (pos 99999)) ∷ Mark mark.Forward ∷ Mark mark.Forward ∷ []) ≡ Err fault.Operand
unfolding operands_of after_one after_two operand_at base_at imm
operands_first = refl

-- `addiu $8,$9,99999 !f !f`: then the numbers
pub numbers_then : statement_of Text (Name (codes "addiu") ∷ Register 8 ∷ Comma ∷ Register 9 ∷ Comma ∷ Number (Small (pos 99999)) ∷ Mark mark.Forward ∷ Mark mark.Forward ∷ []) ≡ Err fault.Number
unfolding operands_of after_one after_two operand_at base_at imm
numbers_then = refl

-- `addiu $8,$9,9 !f !f`: the marks last
pub marks_last : statement_of Text (Name (codes "addiu") ∷ Register 8 ∷ Comma ∷ Register 9 ∷ Comma ∷ Number (Small (pos 9)) ∷ Mark mark.Forward ∷ Mark mark.Forward ∷ []) ≡ Err fault.Mark
unfolding operands_of after_one after_two operand_at base_at imm
marks_last = refl

-- `.text !s`: a directive has no mark
pub marked_directive : statement_of Data (Directive directive.Text ∷ Mark mark.Always ∷ []) ≡ Err fault.Mark
marked_directive = refl

-- `.word 1,-1` in data, and in code
pub two_words : statement_of Data (Directive directive.Word ∷ Number (Small (pos 1)) ∷ Comma ∷ Number (Small (negsuc 0)) ∷ [])
    ≡ Ok (statement.Bytes (1 ∷ 0 ∷ 0 ∷ 0 ∷ 255 ∷ 255 ∷ 255 ∷ 255 ∷ []))
unfolding word_statement numbers_of words_of
two_words = refl

pub words_in_code : statement_of Text (Directive directive.Word ∷ Number (Small (pos 1)) ∷ []) ≡ Err fault.Mnemonic
words_in_code = refl

-- `.byte 255,-128` and `.byte 256` in read-only data
pub two_bytes : statement_of Rodata (Directive directive.Byte ∷ Number (Small (pos 255)) ∷ Comma ∷ Number (Small (negsuc 127)) ∷ [])
    ≡ Ok (statement.Bytes (255 ∷ 128 ∷ []))
unfolding byte_statement numbers_of bytes_of
two_bytes = refl

pub wide_byte : statement_of Rodata (Directive directive.Byte ∷ Number (Small (pos 256)) ∷ []) ≡ Err fault.Number
unfolding byte_statement numbers_of bytes_of
wide_byte = refl

-- `.space 65536` and 65537
pub whole_region : statement_of Data (Directive directive.Space ∷ Number (Small (pos 65536)) ∷ []) ≡ Ok (statement.Space 65536)
whole_region = refl

pub past_the_region : statement_of Data (Directive directive.Space ∷ Number (Small (pos 65537)) ∷ []) ≡ Err fault.Number
past_the_region = refl

-- `halt` in data
pub code_in_data : statement_of Data (Name (codes "halt") ∷ []) ≡ Err fault.Mnemonic
code_in_data = refl

-- `.task A create=$8 targets=B,@4096`, and 4097
pub a_task : statement_of Text (Directive directive.Task ∷ Name (codes "A") ∷ Name (codes "create") ∷ Equals ∷ Register 8
    ∷ Name (codes "targets") ∷ Equals ∷ Name (codes "B") ∷ Comma ∷ Index (Small (pos 4096)) ∷ [])
    ≡ Ok (statement.Task (record { name = codes "A"; create = 256; targets = target.Label (codes "B") ∷ target.Index 4096 ∷ [] }))
unfolding task_of registers_at registers_of places_of targets_of
a_task = refl

pub past_the_code : statement_of Text (Directive directive.Task ∷ Name (codes "A") ∷ Name (codes "create") ∷ Equals ∷ Minus
    ∷ Name (codes "targets") ∷ Equals ∷ Index (Small (pos 4097)) ∷ []) ≡ Err fault.Number
unfolding task_of places_of targets_of
past_the_code = refl

-- a line without tokens
pub nothing : statement_of Rodata [] ≡ Ok statement.Empty
nothing = refl
