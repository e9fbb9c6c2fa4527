-- What operands each statement takes (`.start`, `.task` are own): an instruction those of its form in the
-- instruction table, a directive those of its row here.
use Rattle.std.specs.Prelude.{ℕ, ℤ, pos, negsuc, Bool, true, false, List, [], ◌∷◌, codes, Option, Some, None, if◌then◌else◌}
use Rattle.std.specs.Option.{option_or, option_map}
use Rattle.std.specs.Str.{bytes_eq}
use Rattle.mips_instructions.specs.InstructionTable.{form_of, mnemonics, mnemonic_named}
use Rattle.mips_instructions.specs.declared.instruction.Form.{Form}
use Rattle.mips_instructions.specs.declared.instruction.Form.TheVariants as form
use Rattle.operand_forms.specs.declared.shape.OperandShape.{OperandShape}
use Rattle.operand_forms.specs.declared.shape.OperandShape.TheVariants as shape
use Rattle.operand_forms.specs.declared.shape.Range.{Range}

-- every directive, with the shape of its operands
abbrev pub directives : List (List ℕ × OperandShape)
directives =
    (codes ".start", shape.Start) ∷ (codes ".task", shape.Task) ∷ (codes ".text", shape.Nothing)
    ∷ (codes ".data", shape.Nothing) ∷ (codes ".rodata", shape.Nothing) ∷ (codes ".word", shape.Words)
    ∷ (codes ".byte", shape.Bytes) ∷ (codes ".space", shape.Space) ∷ []

-- the shape of this word in a table
abbrev pub shape_in : (word : List ℕ) → List (List ℕ × OperandShape) → Option OperandShape
shape_in word [] = None
shape_in word (row ∷ rows) = if bytes_eq row.0 word then Some row.1 else shape_in word rows

-- the shape of the operands after a word that begins a statement
unfoldable pub shape_of : (word : List ℕ) → Option OperandShape
shape_of word =
    option_or (option_map (λ m. shape.Instruction (form_of m)) (mnemonic_named word mnemonics)) (shape_in word directives)

-- operands as they may stand after the word
abbrev pub instruction_text : Form → List ℕ
instruction_text form.Three = codes " $8,$9,$10"
instruction_text form.ShiftBy = codes " $8,$9,4"
instruction_text form.ShiftVar = codes " $8,$9,$10"
instruction_text form.Signed = codes " $8,$9,4"
instruction_text form.Unsigned = codes " $8,$9,4"
instruction_text form.Upper = codes " $8,4"
instruction_text form.Sources = codes " $8,$9"
instruction_text form.Dest = codes " $8"
instruction_text form.Source = codes " $8"
instruction_text form.Memory = codes " $8,4($9)"
instruction_text form.BranchTwo = codes " $8,$9,LABEL"
instruction_text form.BranchOne = codes " $8,LABEL"
instruction_text form.Jump = codes " LABEL"
instruction_text form.DestSource = codes " $8,$9"
instruction_text form.Registers = codes " $8,$9"
instruction_text form.Nothing = []
instruction_text form.LoadImmediate = codes " $8,4"
instruction_text form.LoadAddress = codes " $8,LABEL"

abbrev pub form_text : OperandShape → List ℕ
form_text (shape.Instruction f) = instruction_text f
form_text shape.Nothing = []
form_text shape.Start = codes " A"
form_text shape.Task = codes " A create=$8,$9 targets=A,B"
form_text shape.Words = codes " 1,2"
form_text shape.Bytes = codes " 1,2"
form_text shape.Space = codes " 4"

-- a statement that takes no operand
abbrev pub takes_none : OperandShape → Bool
takes_none (shape.Instruction form.Nothing) = true
takes_none shape.Nothing = true
takes_none _ = false

-- the numbers that a statement takes
abbrev pub range : (low high : ℤ) → Range
range low high = record { low = low; high = high }

abbrev pub range_of : OperandShape → Range
range_of (shape.Instruction form.ShiftBy) = range (pos 0) (pos 31)
range_of (shape.Instruction form.Signed) = range (negsuc 32767) (pos 32767)
range_of (shape.Instruction form.Unsigned) = range (pos 0) (pos 65535)
range_of (shape.Instruction form.Upper) = range (pos 0) (pos 65535)
range_of (shape.Instruction form.Memory) = range (negsuc 32767) (pos 32767)
range_of (shape.Instruction form.LoadImmediate) = range (negsuc 2147483647) (pos 4294967295)
range_of shape.Words = range (negsuc 2147483647) (pos 4294967295)
range_of shape.Bytes = range (negsuc 127) (pos 255)
range_of shape.Space = range (pos 0) (pos 65536)
range_of _ = range (pos 0) (pos 0)

-- that range as a sentence
abbrev pub range_text : OperandShape → List ℕ
range_text (shape.Instruction form.ShiftBy) = codes "a shift amount is 0 to 31"
range_text (shape.Instruction form.Signed) = codes "this number is -32768 to 32767"
range_text (shape.Instruction form.Unsigned) = codes "this number is 0 to 65535"
range_text (shape.Instruction form.Upper) = codes "this number is 0 to 65535"
range_text (shape.Instruction form.Memory) = codes "an offset is -32768 to 32767"
range_text (shape.Instruction form.LoadImmediate) = codes "this number is -2147483648 to 4294967295"
range_text shape.Words = codes "a word is -2147483648 to 4294967295"
range_text shape.Bytes = codes "a byte is -128 to 255"
range_text shape.Space = codes "the size is 0 to 65536"
range_text _ = codes "this statement takes no number"
