-- What a statement's operands are by the shape that `explain` names: whether tokens fit it to its end, and whether their
-- numbers are in its range; and what it means that the first token to blame is named.
use Rattle.std.specs.Prelude.{◌≡◌, ℕ, ◌+◌, ◌<◌, List, [], ◌∷◌, ◌++◌, length, take, Bool, true, false, not, ◌||◌, Option, Some, None, Result, Ok, Err, if◌then◌else◌}
use Rattle.std.specs.List.{list_any}
use Rattle.std.specs.Str.{byte}
use Rattle.program_tokens.specs.declared.token.Token.{Token}
use Rattle.mips_instructions.specs.declared.instruction.Form.TheVariants as form
use Rattle.mips_instructions.specs.declared.instruction.Mnemonic.{Mnemonic}
use Rattle.mips_instructions.specs.declared.instruction.Mnemonic.TheVariants as mnemonic
use Rattle.mips_instructions.specs.InstructionTable.{form_of}
use Rattle.program_statements.specs.declared.fault.StatementFault.{StatementFault}
use Rattle.program_statements.specs.declared.fault.StatementFault.TheVariants as fault
use Rattle.operand_forms.specs.declared.form.OperandPart.{OperandPart}
use Rattle.operand_forms.specs.declared.form.Inside.{Inside}
use Rattle.operand_forms.specs.declared.form.Inside.TheVariants.{Before, Member}
use Rattle.operand_forms.specs.declared.shape.OperandShape.{OperandShape}
use Rattle.operand_forms.specs.declared.shape.OperandShape.TheVariants as shape
use Rattle.operand_forms.specs.Shapes.{shape_of, range_of}
use Rattle.operand_forms.specs.Forms.{form_of as parts_of, next_part, fitting}
use Rattle.operand_forms.specs.Meant.{is_beyond}

-- nothing more is wanted: no part is left, or the last is a list with a member
abbrev pub is_end : Inside → List OperandPart → Bool
is_end Before [] = true
is_end Member (part ∷ []) = true
is_end _ _ = false

-- the tokens fit these parts, to the end of the last
abbrev pub is_whole : Inside → List OperandPart → List Token → Bool
is_whole inside parts [] = is_end inside parts
is_whole inside parts (t ∷ ts) = elim (next_part inside parts t) [ None ↦ false | Some next ↦ is_whole next.0 next.1 ts ]

abbrev pub fits_shape : OperandShape → List Token → Bool
fits_shape s tokens = is_whole Before (parts_of s) tokens

-- a number is out of range, or an index is one that no place has
abbrev pub has_beyond : OperandShape → List Token → Bool
has_beyond s tokens = list_any (is_beyond (range_of s)) tokens

-- the fault: the operands do not fit, or else a number is out of range
abbrev pub judged : (whole beyond : Bool) → Option StatementFault
judged whole beyond = if not whole then Some fault.Operand else (if beyond then Some fault.Number else None)

abbrev pub instruction_shape : Mnemonic → OperandShape
instruction_shape m = shape.Instruction (form_of m)

-- `jalr rs` is short for `jalr $31,rs`
abbrev pub fits : Mnemonic → List Token → Bool
fits mnemonic.JumpLinkReg tokens =
    fits_shape (shape.Instruction form.Source) tokens || fits_shape (instruction_shape mnemonic.JumpLinkReg) tokens
fits m tokens = fits_shape (instruction_shape m) tokens

abbrev pub instruction_fault : Mnemonic → List Token → Option StatementFault
instruction_fault m tokens = judged (fits m tokens) (has_beyond (instruction_shape m) tokens)

-- the shape of a directive, by the letters after its point
abbrev pub directive_shape : (letters : List ℕ) → Option OperandShape
directive_shape letters = shape_of (byte "." ∷ letters)

abbrev pub shape_fault : Option OperandShape → List Token → Option StatementFault
shape_fault None tokens = Some fault.Mnemonic
shape_fault (Some s) tokens = judged (fits_shape s tokens) (has_beyond s tokens)

-- the fault that a reader finds
abbrev pub fault_of : {A : Type 0} → Result A StatementFault → Option StatementFault
fault_of (Ok x) = None
fault_of (Err f) = Some f

-- how many of these tokens fit, from the first on: `explain` names the next one, or the end
abbrev pub so_far : OperandShape → List Token → ℕ
so_far s tokens = fitting Before (parts_of s) tokens

-- That token is the first to blame. Other tokens in its place, and after it, make operands that are not refused; with it
-- they are, whatever comes after.
pub record NamesFirst (reading : List Token → Option StatementFault) (s : OperandShape) (tokens : List Token) : Type 0 where
  pub mendable : (more : List Token) × ¬ (reading (take (so_far s tokens) tokens ++ more) ≡ Some fault.Operand)
  pub refused : so_far s tokens < length tokens → (more : List Token) → reading (take (so_far s tokens + 1) tokens ++ more) ≡ Some fault.Operand
