-- Worked examples, computed by the checker.
use Rattle.std.specs.Prelude.{◌≡◌, pos, [], ◌∷◌, Some, None, codes, refl}
use Rattle.program_tokens.specs.declared.token.Number.TheVariants.{Small}
use Rattle.program_tokens.specs.declared.token.Token.TheVariants.{Register, Number, Comma, Open, Close}
use Rattle.mips_instructions.specs.declared.instruction.LoadKind.TheVariants.{Lw}
use Rattle.mips_instructions.specs.declared.instruction.Mnemonic.TheVariants.{Load, JumpLinkReg}
use Rattle.program_statements.specs.declared.fault.StatementFault.TheVariants as fault
use Rattle.operand_forms.specs.declared.shape.OperandShape.TheVariants as shape
use Rattle.operand_forms.specs.Bytes.{span, whole_word}
use Rattle.operand_forms.specs.Shapes.{shape_of}
use Rattle.operand_forms.specs.OperandForms.{instruction_shape, instruction_fault, directive_shape, shape_fault, so_far}

-- `lw $8,4($9)`
pub a_load : instruction_fault (Load Lw) (Register 8 ∷ Comma ∷ Number (Small (pos 4)) ∷ Open ∷ Register 9 ∷ Close ∷ []) ≡ None
a_load = refl

-- `lw $8,32768($9)`
pub too_far : instruction_fault (Load Lw) (Register 8 ∷ Comma ∷ Number (Small (pos 32768)) ∷ Open ∷ Register 9 ∷ Close ∷ []) ≡ Some fault.Number
too_far = refl

-- `lw $8,4` ends too early, and in `lw $8,$9` the third token is to blame
pub no_base : instruction_fault (Load Lw) (Register 8 ∷ Comma ∷ Number (Small (pos 4)) ∷ []) ≡ Some fault.Operand
no_base = refl

pub third_token : so_far (instruction_shape (Load Lw)) (Register 8 ∷ Comma ∷ Register 9 ∷ []) ≡ 2
third_token = refl

-- `jalr $8`
pub short : instruction_fault JumpLinkReg (Register 8 ∷ []) ≡ None
short = refl

-- `.byte 1,256`
pub a_word : directive_shape (codes "byte") ≡ Some shape.Bytes
unfolding shape_of
a_word = refl

pub no_byte : shape_fault (Some shape.Bytes) (Number (Small (pos 1)) ∷ Comma ∷ Number (Small (pos 256)) ∷ []) ≡ Some fault.Number
no_byte = refl

-- a directive that ends before _, and a mark in capitals
pub a_directive : whole_word (codes "  .end_macro 2") (span 3 4) ≡ span 3 10
unfolding whole_word
a_directive = refl

pub a_mark : whole_word (codes "nop !F") (span 5 1) ≡ span 5 2
unfolding whole_word
a_mark = refl
