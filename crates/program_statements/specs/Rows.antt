-- What each instruction of a text means: a row for each mnemonic (MIPS manual; `out`, `release`, `halt`
-- and the pseudo-instructions' forms are this project's). The operands' number and kinds are judged before the
-- ranges of their numbers.
use Rattle.std.specs.Prelude.{ℕ, ◌-◌, ◌/◌, ◌%◌, ◌^◌, pos, List, Result, Ok, Err, nat_lt, nat_le, if◌then◌else◌}
use Rattle.std.specs.Int.{w32, cast_signed}
use Rattle.program_tokens.specs.declared.token.Number.{Number}
use Rattle.mips_instructions.specs.declared.instruction.ThreeKind.{ThreeKind}
use Rattle.mips_instructions.specs.declared.instruction.ThreeKind.TheVariants.{Addu}
use Rattle.mips_instructions.specs.declared.instruction.ShiftByKind.{ShiftByKind}
use Rattle.mips_instructions.specs.declared.instruction.ShiftByKind.TheVariants.{Sll}
use Rattle.mips_instructions.specs.declared.instruction.ShiftVarKind.{ShiftVarKind}
use Rattle.mips_instructions.specs.declared.instruction.ImmKind.{ImmKind}
use Rattle.mips_instructions.specs.declared.instruction.ImmKind.TheVariants.{Addiu}
use Rattle.mips_instructions.specs.declared.instruction.LogicKind.{LogicKind}
use Rattle.mips_instructions.specs.declared.instruction.LogicKind.TheVariants.{Ori}
use Rattle.mips_instructions.specs.declared.instruction.MultKind.{MultKind}
use Rattle.mips_instructions.specs.declared.instruction.MoveFromKind.{MoveFromKind}
use Rattle.mips_instructions.specs.declared.instruction.MoveToKind.{MoveToKind}
use Rattle.mips_instructions.specs.declared.instruction.LoadKind.{LoadKind}
use Rattle.mips_instructions.specs.declared.instruction.StoreKind.{StoreKind}
use Rattle.mips_instructions.specs.declared.instruction.BranchTwoKind.{BranchTwoKind}
use Rattle.mips_instructions.specs.declared.instruction.BranchOneKind.{BranchOneKind}
use Rattle.mips_instructions.specs.declared.instruction.Op.TheVariants as op
use Rattle.program_statements.specs.Steps.{◌>>=◌}
use Rattle.program_tokens.specs.declared.token.Token.{Token}
use Rattle.program_statements.specs.Operands.{operands_of}
use Rattle.program_statements.specs.Ranges.{natural, signed_half, word}
use Rattle.program_statements.specs.declared.fault.StatementFault.{StatementFault}
use Rattle.program_statements.specs.declared.fault.StatementFault.TheVariants as fault
use Rattle.program_statements.specs.declared.operand.Operand.{Operand}
use Rattle.program_statements.specs.declared.operand.Operand.TheVariants as operand
use Rattle.program_statements.specs.declared.operand.Operands.{Operands}
use Rattle.program_statements.specs.declared.operand.Operands.TheVariants as operands
use Rattle.mips_instructions.specs.declared.instruction.Mnemonic.{Mnemonic}
use Rattle.mips_instructions.specs.declared.instruction.Mnemonic.TheVariants as mnemonic
use Rattle.program_statements.specs.declared.statement.Target.{Target}
use Rattle.program_statements.specs.declared.statement.Target.TheVariants as target
use Rattle.program_statements.specs.declared.statement.Instruction.{Instruction}
use Rattle.program_statements.specs.declared.statement.Instruction.TheVariants as instruction

-- The number of the operands.
abbrev pub no_operand : Operands → Result (Unit {0}) StatementFault
no_operand operands.Zero = Ok tt
no_operand _ = Err fault.Operand

abbrev pub one_operand : Operands → Result Operand StatementFault
one_operand (operands.One a) = Ok a
one_operand _ = Err fault.Operand

abbrev pub two_operands : Operands → Result (Operand × Operand) StatementFault
two_operands (operands.Two a b) = Ok (a, b)
two_operands _ = Err fault.Operand

abbrev pub three_operands : Operands → Result (Operand × Operand × Operand) StatementFault
three_operands (operands.Three a b c) = Ok (a, b, c)
three_operands _ = Err fault.Operand

-- The kind of an operand.
abbrev pub as_register : Operand → Result ℕ StatementFault
as_register (operand.Register r) = Ok r
as_register _ = Err fault.Operand

abbrev pub as_number : Operand → Result Number StatementFault
as_number (operand.Number n) = Ok n
as_number _ = Err fault.Operand

abbrev pub as_offset : Operand → Result (Number × ℕ) StatementFault
as_offset (operand.Offset n base) = Ok (n, base)
as_offset _ = Err fault.Operand

abbrev pub as_label : Operand → Result (List ℕ) StatementFault
as_label (operand.Label name) = Ok name
as_label _ = Err fault.Operand

-- a place: a label or an index
abbrev pub as_target : Operand → Result Target StatementFault
as_target (operand.Label name) = Ok (target.Label name)
as_target (operand.Index n) = natural 4096 n >>= λ index. Ok (target.Index index)
as_target _ = Err fault.Operand

-- The rows.

-- `addu rd,rs,rt`
unfoldable pub three : ThreeKind → Operands → Result Instruction StatementFault
three kind operands = do
  o ← three_operands operands
  rd ← as_register o.0
  rs ← as_register o.1
  rt ← as_register o.2
  Ok (instruction.One (op.Three kind rd rs rt))

-- `sll rd,rt,n`
unfoldable pub shift_by : ShiftByKind → Operands → Result Instruction StatementFault
shift_by kind operands = do
  o ← three_operands operands
  rd ← as_register o.0
  rt ← as_register o.1
  number ← as_number o.2
  amount ← natural 31 number
  Ok (instruction.One (op.ShiftBy kind rd rt amount))

-- `sllv rd,rt,rs`
unfoldable pub shift_var : ShiftVarKind → Operands → Result Instruction StatementFault
shift_var kind operands = do
  o ← three_operands operands
  rd ← as_register o.0
  rt ← as_register o.1
  rs ← as_register o.2
  Ok (instruction.One (op.ShiftVar kind rd rt rs))

-- `addiu rt,rs,n`
unfoldable pub imm : ImmKind → Operands → Result Instruction StatementFault
imm kind operands = do
  o ← three_operands operands
  rt ← as_register o.0
  rs ← as_register o.1
  number ← as_number o.2
  n ← signed_half number
  Ok (instruction.One (op.Imm kind rt rs n))

-- `andi rt,rs,n`
unfoldable pub logic : LogicKind → Operands → Result Instruction StatementFault
logic kind operands = do
  o ← three_operands operands
  rt ← as_register o.0
  rs ← as_register o.1
  number ← as_number o.2
  n ← natural 65535 number
  Ok (instruction.One (op.Logic kind rt rs n))

-- `lui rt,n`
unfoldable pub lui : Operands → Result Instruction StatementFault
lui operands = do
  o ← two_operands operands
  rt ← as_register o.0
  number ← as_number o.1
  n ← natural 65535 number
  Ok (instruction.One (op.Lui rt n))

-- `mult rs,rt`
unfoldable pub mult : MultKind → Operands → Result Instruction StatementFault
mult kind operands = do
  o ← two_operands operands
  rs ← as_register o.0
  rt ← as_register o.1
  Ok (instruction.One (op.Mult kind rs rt))

-- `mfhi rd`
unfoldable pub move_from : MoveFromKind → Operands → Result Instruction StatementFault
move_from kind operands = do
  o ← one_operand operands
  rd ← as_register o
  Ok (instruction.One (op.MoveFrom kind rd))

-- `mthi rs`
unfoldable pub move_to : MoveToKind → Operands → Result Instruction StatementFault
move_to kind operands = do
  o ← one_operand operands
  rs ← as_register o
  Ok (instruction.One (op.MoveTo kind rs))

-- `lw rt,n(base)`
unfoldable pub load : LoadKind → Operands → Result Instruction StatementFault
load kind operands = do
  o ← two_operands operands
  rt ← as_register o.0
  offset ← as_offset o.1
  n ← signed_half offset.0
  Ok (instruction.One (op.Load kind rt offset.1 n))

-- `sw rt,n(base)`
unfoldable pub store : StoreKind → Operands → Result Instruction StatementFault
store kind operands = do
  o ← two_operands operands
  rt ← as_register o.0
  offset ← as_offset o.1
  n ← signed_half offset.0
  Ok (instruction.One (op.Store kind rt offset.1 n))

-- `beq rs,rt,T`
unfoldable pub branch_two : BranchTwoKind → Operands → Result Instruction StatementFault
branch_two kind operands = do
  o ← three_operands operands
  rs ← as_register o.0
  rt ← as_register o.1
  place ← as_target o.2
  Ok (instruction.BranchTwo kind rs rt place)

-- `blez rs,T`
unfoldable pub branch_one : BranchOneKind → Operands → Result Instruction StatementFault
branch_one kind operands = do
  o ← two_operands operands
  rs ← as_register o.0
  place ← as_target o.1
  Ok (instruction.BranchOne kind rs place)

-- `j T`
unfoldable pub jump : Operands → Result Instruction StatementFault
jump operands = do
  o ← one_operand operands
  place ← as_target o
  Ok (instruction.Jump place)

-- `jal T`
unfoldable pub jump_link : Operands → Result Instruction StatementFault
jump_link operands = do
  o ← one_operand operands
  place ← as_target o
  Ok (instruction.JumpLink place)

-- `jr rs`, `out rs`
unfoldable pub jump_reg : Operands → Result Instruction StatementFault
jump_reg operands = do
  o ← one_operand operands
  rs ← as_register o
  Ok (instruction.One (op.JumpReg rs))

unfoldable pub out : Operands → Result Instruction StatementFault
out operands = do
  o ← one_operand operands
  rs ← as_register o
  Ok (instruction.One (op.Out rs))

-- `jalr rd,rs`, and `jalr rs` with $31 as rd
unfoldable pub jump_link_reg : Operands → Result Instruction StatementFault
jump_link_reg (operands.One a) = do
  rs ← as_register a
  Ok (instruction.One (op.JumpLinkReg 31 rs))
jump_link_reg (operands.Two a b) = do
  rd ← as_register a
  rs ← as_register b
  Ok (instruction.One (op.JumpLinkReg rd rs))
jump_link_reg _ = Err fault.Operand

-- `halt`, `nop`
unfoldable pub halt : Operands → Result Instruction StatementFault
halt operands = no_operand operands >>= λ _. Ok (instruction.One op.Halt)

unfoldable pub nop : Operands → Result Instruction StatementFault
nop operands = no_operand operands >>= λ _. Ok (instruction.One (op.ShiftBy Sll 0 0 0))

-- `move rd,rs`
unfoldable pub copy : Operands → Result Instruction StatementFault
copy operands = do
  o ← two_operands operands
  rd ← as_register o.0
  rs ← as_register o.1
  Ok (instruction.One (op.Three Addu rd rs 0))

-- the shortest way to a word: one `addiu` where it is -32768 to 32767 as a signed number, else one
-- `ori` where it has 16 bits, else its two halves
abbrev pub immediate : ℕ → ℕ → Instruction
immediate rd w =
    if nat_lt w (2 ^ 15) then instruction.One (op.Imm Addiu rd 0 (pos w))
    else (if nat_le (2 ^ 32 - 2 ^ 15) w then instruction.One (op.Imm Addiu rd 0 (cast_signed w32 w))
    else (if nat_lt w (2 ^ 16) then instruction.One (op.Logic Ori rd 0 w)
    else instruction.Two (op.Lui rd (w / 2 ^ 16)) (op.Logic Ori rd rd (w % 2 ^ 16))))

-- `li rd,N`
unfoldable pub load_immediate : Operands → Result Instruction StatementFault
load_immediate operands = do
  o ← two_operands operands
  rd ← as_register o.0
  number ← as_number o.1
  w ← word number
  Ok (immediate rd w)

-- `la rd,NAME`
unfoldable pub load_address : Operands → Result Instruction StatementFault
load_address operands = do
  o ← two_operands operands
  rd ← as_register o.0
  name ← as_label o.1
  Ok (instruction.LoadAddress rd name)

-- all rows; the registers of a `release` are a list instead, of any length
abbrev pub row_of : Mnemonic → Operands → Result Instruction StatementFault
row_of (mnemonic.Three kind) operands = three kind operands
row_of (mnemonic.ShiftBy kind) operands = shift_by kind operands
row_of (mnemonic.ShiftVar kind) operands = shift_var kind operands
row_of (mnemonic.Imm kind) operands = imm kind operands
row_of (mnemonic.Logic kind) operands = logic kind operands
row_of mnemonic.Lui operands = lui operands
row_of (mnemonic.Mult kind) operands = mult kind operands
row_of (mnemonic.MoveFrom kind) operands = move_from kind operands
row_of (mnemonic.MoveTo kind) operands = move_to kind operands
row_of (mnemonic.Load kind) operands = load kind operands
row_of (mnemonic.Store kind) operands = store kind operands
row_of (mnemonic.BranchTwo kind) operands = branch_two kind operands
row_of (mnemonic.BranchOne kind) operands = branch_one kind operands
row_of mnemonic.Jump operands = jump operands
row_of mnemonic.JumpLink operands = jump_link operands
row_of mnemonic.JumpReg operands = jump_reg operands
row_of mnemonic.JumpLinkReg operands = jump_link_reg operands
row_of mnemonic.Out operands = out operands
row_of mnemonic.Release operands = Err fault.Operand
row_of mnemonic.Halt operands = halt operands
row_of mnemonic.Nop operands = nop operands
row_of mnemonic.Move operands = copy operands
row_of mnemonic.LoadImmediate operands = load_immediate operands
row_of mnemonic.LoadAddress operands = load_address operands

-- the instruction of a mnemonic with the tokens of its operands
abbrev pub with_operands : Mnemonic → List Token → Result Instruction StatementFault
with_operands m tokens = operands_of tokens >>= row_of m
