-- The statement of a line (tasks and marks after the 1995 paper, section 2.2): what its first
-- token, the operands and the marks at its end mean.
use Rattle.std.specs.Prelude.{ℕ, ◌-◌, ◌^◌, bit_or, List, [], ◌∷◌, ◌++◌, length, take, drop, reverse, take_while, codes, Bool, true, false, Option, Some, None, Result, Ok, Err, if◌then◌else◌}
use Rattle.std.specs.Str.{bytes_eq}
use Rattle.std.specs.Int.{w32, to_le_bytes}
use Rattle.program_tokens.specs.declared.token.Number.{Number}
use Rattle.program_tokens.specs.declared.token.Token.{Token}
use Rattle.program_tokens.specs.declared.token.Token.TheVariants as token
use Rattle.program_tokens.specs.declared.token.Directive.{Directive}
use Rattle.program_tokens.specs.declared.token.Directive.TheVariants as directive
use Rattle.program_tokens.specs.declared.token.Mark.TheVariants as mark
use Rattle.task_descriptor.specs.declared.descriptor.Stop.{Stop}
use Rattle.task_descriptor.specs.declared.descriptor.Stop.TheVariants as stop
use Rattle.mips_instructions.specs.declared.instruction.Op.TheVariants as op
use Rattle.program_statements.specs.Steps.{◌>>=◌}
use Rattle.program_statements.specs.Ranges.{natural, word, byte}
use Rattle.mips_instructions.specs.InstructionTable.{mnemonic_named, mnemonics}
use Rattle.program_statements.specs.Rows.{as_target, with_operands}
use Rattle.program_statements.specs.declared.fault.StatementFault.{StatementFault}
use Rattle.program_statements.specs.declared.fault.StatementFault.TheVariants as fault
use Rattle.program_statements.specs.declared.operand.Operand.{Operand}
use Rattle.program_statements.specs.declared.operand.Operand.TheVariants as operand
use Rattle.mips_instructions.specs.declared.instruction.Mnemonic.{Mnemonic}
use Rattle.mips_instructions.specs.declared.instruction.Mnemonic.TheVariants as mnemonic
use Rattle.program_statements.specs.declared.statement.Section.{Section}
use Rattle.program_statements.specs.declared.statement.Section.TheVariants as section
use Rattle.program_statements.specs.declared.statement.Target.{Target}
use Rattle.program_statements.specs.declared.statement.Marks.{Marks}
use Rattle.program_statements.specs.declared.statement.Instruction.{Instruction}
use Rattle.program_statements.specs.declared.statement.Instruction.TheVariants as instruction
use Rattle.program_statements.specs.declared.statement.Statement.{Statement}
use Rattle.program_statements.specs.declared.statement.Statement.TheVariants as statement

-- Lists of operands, with commas between them.

unfoldable pub registers_of : List Token → Result (List ℕ × List Token) StatementFault
registers_of (token.Register r ∷ token.Comma ∷ rest) =
    registers_of rest >>= λ others. Ok (r ∷ others.0, others.1)
registers_of (token.Register r ∷ rest) = Ok (r ∷ [], rest)
registers_of _ = Err fault.Operand

-- a set with these registers added, register r being bit r; a register may be named twice
abbrev pub with_registers : ℕ → List ℕ → ℕ
with_registers set [] = set
with_registers set (r ∷ rs) = with_registers (bit_or set (2 ^ r)) rs

-- the set of the registers at the front, and the tokens after them
unfoldable pub registers_at : List Token → Result (ℕ × List Token) StatementFault
registers_at tokens = registers_of tokens >>= λ x. Ok (with_registers 0 x.0, x.1)

unfoldable pub numbers_of : List Token → Result (List Number) StatementFault
numbers_of (token.Number n ∷ []) = Ok (n ∷ [])
numbers_of (token.Number n ∷ token.Comma ∷ rest) = numbers_of rest >>= λ others. Ok (n ∷ others)
numbers_of _ = Err fault.Operand

-- the operands that may be targets: labels and indices
unfoldable pub places_of : List Token → Result (List Operand) StatementFault
places_of (token.Name name ∷ []) = Ok (operand.Label name ∷ [])
places_of (token.Index n ∷ []) = Ok (operand.Index n ∷ [])
places_of (token.Name name ∷ token.Comma ∷ rest) = places_of rest >>= λ others. Ok (operand.Label name ∷ others)
places_of (token.Index n ∷ token.Comma ∷ rest) = places_of rest >>= λ others. Ok (operand.Index n ∷ others)
places_of _ = Err fault.Operand

unfoldable pub targets_of : List Operand → Result (List Target) StatementFault
targets_of [] = Ok []
targets_of (place ∷ places) = do
  first ← as_target place
  others ← targets_of places
  Ok (first ∷ others)

-- words, little-endian
unfoldable pub words_of : List Number → Result (List ℕ) StatementFault
words_of [] = Ok []
words_of (n ∷ ns) = do
  first ← word n
  others ← words_of ns
  Ok (to_le_bytes w32 first ++ others)

unfoldable pub bytes_of : List Number → Result (List ℕ) StatementFault
bytes_of [] = Ok []
bytes_of (n ∷ ns) = do
  first ← byte n
  others ← bytes_of ns
  Ok (first ∷ others)

-- Directives.

-- an empty list is written `-`
abbrev pub create_at : List Token → Result (ℕ × List Token) StatementFault
create_at (token.Minus ∷ rest) = Ok (0, rest)
create_at tokens = registers_at tokens

abbrev pub targets_at : List Token → Result (List Operand) StatementFault
targets_at (token.Minus ∷ []) = Ok []
targets_at tokens = places_of tokens

-- `create=` or `targets=`, and the tokens after it
abbrev pub after_word : List ℕ → List Token → Result (List Token) StatementFault
after_word word (token.Name name ∷ token.Equals ∷ rest) = if bytes_eq name word then Ok rest else Err fault.Operand
after_word word _ = Err fault.Operand

abbrev pub name_at : List Token → Result (List ℕ × List Token) StatementFault
name_at (token.Name name ∷ rest) = Ok (name, rest)
name_at _ = Err fault.Operand

-- `.task NAME create=REGS targets=TS`
unfoldable pub task_of : List Token → Result Statement StatementFault
task_of tokens = do
  name ← name_at tokens
  registers ← after_word (codes "create") name.1
  create ← create_at registers
  places ← after_word (codes "targets") create.1
  listed ← targets_at places
  targets ← targets_of listed
  Ok (statement.Task (record { name = name.0; create = create.0; targets = targets }))

abbrev pub start_of : List Token → Result Statement StatementFault
start_of (token.Name name ∷ []) = Ok (statement.Start name)
start_of _ = Err fault.Operand

abbrev pub no_operands : Statement → List Token → Result Statement StatementFault
no_operands s [] = Ok s
no_operands s (t ∷ ts) = Err fault.Operand

unfoldable pub word_statement : List Token → Result Statement StatementFault
word_statement tokens = numbers_of tokens >>= λ ns. words_of ns >>= λ bytes. Ok (statement.Bytes bytes)

unfoldable pub byte_statement : List Token → Result Statement StatementFault
byte_statement tokens = numbers_of tokens >>= λ ns. bytes_of ns >>= λ bytes. Ok (statement.Bytes bytes)

abbrev pub space_of : List Token → Result Statement StatementFault
space_of (token.Number n ∷ []) = natural 65536 n >>= λ size. Ok (statement.Space size)
space_of _ = Err fault.Operand

-- data stand in data and in read-only data
abbrev pub in_data : Section → Result Statement StatementFault → Result Statement StatementFault
in_data section.Text s = Err fault.Mnemonic
in_data section.Data s = s
in_data section.Rodata s = s

abbrev pub directive_of : Section → Directive → List Token → Result Statement StatementFault
directive_of here directive.Start tokens = start_of tokens
directive_of here directive.Task tokens = task_of tokens
directive_of here directive.Text tokens = no_operands (statement.Section section.Text) tokens
directive_of here directive.Data tokens = no_operands (statement.Section section.Data) tokens
directive_of here directive.Rodata tokens = no_operands (statement.Section section.Rodata) tokens
directive_of here directive.Word tokens = in_data here (word_statement tokens)
directive_of here directive.Byte tokens = in_data here (byte_statement tokens)
directive_of here directive.Space tokens = in_data here (space_of tokens)
directive_of here directive.Unknown tokens = Err fault.Mnemonic

-- Instructions.

-- `release r,r,..`
unfoldable pub release_of : List Token → Result Instruction StatementFault
release_of tokens = do
  registers ← registers_at tokens
  elim registers.1 [ [] ↦ Ok (instruction.One (op.Release registers.0)) | t ∷ ts ↦ Err fault.Operand ]

abbrev pub instruction_of : Mnemonic → List Token → Result Instruction StatementFault
instruction_of mnemonic.Release tokens = release_of tokens
instruction_of m tokens = with_operands m tokens

-- Marks.

abbrev pub no_marks : Marks
no_marks = record { forward = false; stop = stop.None }

-- one stop at most
abbrev pub with_stop : Marks → Stop → Result Marks StatementFault
with_stop marks new = elim marks.stop [
  | stop.None ↦ Ok (record { forward = marks.forward; stop = new })
  | stop.Always ↦ Err fault.Mark
  | stop.Taken ↦ Err fault.Mark
  | stop.NotTaken ↦ Err fault.Mark
]

abbrev pub with_mark : Marks → Token → Result Marks StatementFault
with_mark marks (token.Mark mark.Forward) =
    if marks.forward then Err fault.Mark else Ok (record { forward = true; stop = marks.stop })
with_mark marks (token.Mark mark.Always) = with_stop marks stop.Always
with_mark marks (token.Mark mark.Taken) = with_stop marks stop.Taken
with_mark marks (token.Mark mark.NotTaken) = with_stop marks stop.NotTaken
with_mark marks _ = Err fault.Mark

abbrev pub marks_after : Marks → List Token → Result Marks StatementFault
marks_after marks [] = Ok marks
marks_after marks (t ∷ ts) = with_mark marks t >>= λ more. marks_after more ts

-- how many marks stand at the end
abbrev pub is_mark : Token → Bool
is_mark (token.Mark m) = true
is_mark _ = false

abbrev pub mark_count : List Token → ℕ
mark_count tokens = length (take_while is_mark (reverse tokens))

-- Statements.

-- an instruction stands only in code
abbrev pub in_code : Section → Result Statement StatementFault → Result Statement StatementFault
in_code section.Text s = s
in_code section.Data s = Err fault.Mnemonic
in_code section.Rodata s = Err fault.Mnemonic

abbrev pub of_mnemonic : Option Mnemonic → List Token → Result Statement StatementFault
of_mnemonic None tokens = Err fault.Mnemonic
of_mnemonic (Some m) tokens = instruction_of m tokens >>= λ i. Ok (statement.Code i no_marks)

-- the statement of the tokens before the marks
abbrev pub unmarked : Section → List Token → Result Statement StatementFault
unmarked here (token.Name name ∷ rest) = in_code here (of_mnemonic (mnemonic_named name mnemonics) rest)
unmarked here (token.Directive d ∷ rest) = directive_of here d rest
unmarked here _ = Err fault.Mnemonic

-- the statement with its marks, which an instruction alone may have
abbrev pub with_marks : List Token → Statement → Result Statement StatementFault
with_marks marks (statement.Code i none) = marks_after none marks >>= λ all. Ok (statement.Code i all)
with_marks [] s = Ok s
with_marks (t ∷ ts) s = Err fault.Mark

-- the statement of a line without its labels: number and kinds of the operands first, then the ranges
-- of the numbers, then the marks
abbrev pub statement_of : Section → List Token → Result Statement StatementFault
statement_of here [] = Ok statement.Empty
statement_of here (t ∷ ts) =
    let front = length (t ∷ ts) - mark_count (t ∷ ts) in
    unmarked here (take front (t ∷ ts)) >>= with_marks (drop front (t ∷ ts))
