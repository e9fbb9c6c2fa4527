-- Row by row: the fault that a row finds in its operands is that of their kinds and its range.
use Rattle.std.proofs.Common.{◌≡◌, List, [], ◌∷◌, Bool, true, false, not, Some, Result, Ok, Err, refl, sym, ap, ap₂, ◌∙◌, length, ◌≤◌, arith}
use Rattle.std.specs.Prelude.{pos, negsuc, ◌||◌}
use Rattle.program_tokens.specs.declared.token.Number.{Number}
use Rattle.program_tokens.specs.declared.token.Token.{Token}
use Rattle.mips_instructions.specs.declared.instruction.ThreeKind.{ThreeKind}
use Rattle.mips_instructions.specs.declared.instruction.ShiftByKind.{ShiftByKind}
use Rattle.mips_instructions.specs.declared.instruction.ShiftVarKind.{ShiftVarKind}
use Rattle.mips_instructions.specs.declared.instruction.ImmKind.{ImmKind}
use Rattle.mips_instructions.specs.declared.instruction.LogicKind.{LogicKind}
use Rattle.mips_instructions.specs.declared.instruction.MultKind.{MultKind}
use Rattle.mips_instructions.specs.declared.instruction.MoveFromKind.{MoveFromKind}
use Rattle.mips_instructions.specs.declared.instruction.MoveToKind.{MoveToKind}
use Rattle.mips_instructions.specs.declared.instruction.LoadKind.{LoadKind}
use Rattle.mips_instructions.specs.declared.instruction.StoreKind.{StoreKind}
use Rattle.mips_instructions.specs.declared.instruction.BranchTwoKind.{BranchTwoKind}
use Rattle.mips_instructions.specs.declared.instruction.BranchOneKind.{BranchOneKind}
use Rattle.mips_instructions.specs.declared.instruction.Op.TheVariants as op
use Rattle.mips_instructions.specs.declared.instruction.Mnemonic.{Mnemonic}
use Rattle.mips_instructions.specs.declared.instruction.Mnemonic.TheVariants as mnemonic
use Rattle.program_statements.specs.Steps.{◌>>=◌}
use Rattle.program_statements.specs.Operands.{operands_of}
use Rattle.program_statements.specs.Ranges.{natural, signed_half, word}
use Rattle.program_statements.specs.Rows.{row_of, with_operands, three, shift_by, shift_var, imm, logic, lui, mult, move_from, move_to, load, store, branch_two, branch_one, jump, jump_link, jump_reg, jump_link_reg, out, halt, nop, copy, immediate, load_immediate, load_address}
use Rattle.program_statements.specs.declared.fault.StatementFault.{StatementFault}
use Rattle.program_statements.specs.declared.operand.Operand.TheVariants as operand
use Rattle.program_statements.specs.declared.operand.Operands.{Operands}
use Rattle.program_statements.specs.declared.operand.Operands.TheVariants as operands
use Rattle.program_statements.specs.declared.statement.Target.{Target}
use Rattle.program_statements.specs.declared.statement.Target.TheVariants as target
use Rattle.program_statements.specs.declared.statement.Instruction.{Instruction}
use Rattle.program_statements.specs.declared.statement.Instruction.TheVariants as instruction
use Rattle.operand_forms.specs.declared.form.Inside.TheVariants.{Before}
use Rattle.operand_forms.specs.declared.shape.Range.{Range}
use Rattle.operand_forms.specs.Shapes.{range, range_of}
use Rattle.operand_forms.specs.Meant.{is_within}
use Rattle.operand_forms.specs.OperandForms.{is_whole, has_beyond, judged, instruction_shape, instruction_fault, fault_of}
use Rattle.operand_forms.proofs.OperandKinds.{Kind, General, Numeral, Offset, Destination, Name, all_parts, beyond_tokens}
use Rattle.operand_forms.proofs.Reading.{AllAgree, are_kinds, beyond_operands, listed, as_list, operands_agree}
use Rattle.operand_forms.proofs.RangeTests.{carried, one_number, natural_fault, half_fault, word_fault}

abbrev numbers_of : Mnemonic → Range
numbers_of m = range_of (instruction_shape m)

-- what a row says of operands of these kinds
abbrev SaysRow : Mnemonic → List Kind → Type 0
SaysRow m ks = (os : Operands) → fault_of (row_of m os) ≡ judged (are_kinds ks (listed os)) (beyond_operands (numbers_of m) (listed os))

-- so it is with the tokens
by_result : (numbers : Range) (ks : List Kind) (whole : Bool) (ts : List Token) (row : Operands → Result Instruction StatementFault)
    → ((os : Operands) → fault_of (row os) ≡ judged (are_kinds ks (listed os)) (beyond_operands numbers (listed os)))
    → (r : Result Operands StatementFault) → AllAgree numbers ks whole ts (as_list r) → fault_of (r >>= row) ≡ judged whole (beyond_tokens numbers ts)
by_result numbers ks whole ts row says (Ok os) a = says os ∙ sym (ap₂ judged a.0 a.1)
by_result numbers ks whole ts row says (Err f) a = ap Some a.1 ∙ sym (ap (λ whole. judged whole (beyond_tokens numbers ts)) a.0)

by_kinds : (m : Mnemonic) (ks : List Kind) (ts : List Token) → length ks ≤ 3 → SaysRow m ks
    → fault_of (with_operands m ts) ≡ judged (is_whole Before (all_parts ks) ts) (has_beyond (instruction_shape m) ts)
by_kinds m ks ts few says =
    by_result (numbers_of m) ks (is_whole Before (all_parts ks) ts) ts (row_of m) says (operands_of ts) (operands_agree (numbers_of m) ks ts few)

-- The rows.

three_row : (k : ThreeKind) → SaysRow (mnemonic.Three k) (General ∷ General ∷ General ∷ [])
unfolding three
three_row k (operands.Three (operand.Register a) (operand.Register b) (operand.Register c)) = refl
three_row k _ = refl

shift_by_row : (k : ShiftByKind) → SaysRow (mnemonic.ShiftBy k) (General ∷ General ∷ Numeral ∷ [])
unfolding shift_by
shift_by_row k (operands.Three (operand.Register a) (operand.Register b) (operand.Number n)) =
    carried (natural 31 n) (λ amount. instruction.One (op.ShiftBy k a b amount)) ∙ (natural_fault 31 n ∙ one_number (is_within (range (pos 0) (pos 31)) n))
shift_by_row k _ = refl

shift_var_row : (k : ShiftVarKind) → SaysRow (mnemonic.ShiftVar k) (General ∷ General ∷ General ∷ [])
unfolding shift_var
shift_var_row k (operands.Three (operand.Register a) (operand.Register b) (operand.Register c)) = refl
shift_var_row k _ = refl

imm_row : (k : ImmKind) → SaysRow (mnemonic.Imm k) (General ∷ General ∷ Numeral ∷ [])
unfolding imm
imm_row k (operands.Three (operand.Register a) (operand.Register b) (operand.Number n)) =
    carried (signed_half n) (λ n. instruction.One (op.Imm k a b n)) ∙ (half_fault n ∙ one_number (is_within (range (negsuc 32767) (pos 32767)) n))
imm_row k _ = refl

logic_row : (k : LogicKind) → SaysRow (mnemonic.Logic k) (General ∷ General ∷ Numeral ∷ [])
unfolding logic
logic_row k (operands.Three (operand.Register a) (operand.Register b) (operand.Number n)) =
    carried (natural 65535 n) (λ n. instruction.One (op.Logic k a b n)) ∙ (natural_fault 65535 n ∙ one_number (is_within (range (pos 0) (pos 65535)) n))
logic_row k _ = refl

lui_row : SaysRow mnemonic.Lui (General ∷ Numeral ∷ [])
unfolding lui
lui_row (operands.Two (operand.Register a) (operand.Number n)) =
    carried (natural 65535 n) (λ n. instruction.One (op.Lui a n)) ∙ (natural_fault 65535 n ∙ one_number (is_within (range (pos 0) (pos 65535)) n))
lui_row _ = refl

mult_row : (k : MultKind) → SaysRow (mnemonic.Mult k) (General ∷ General ∷ [])
unfolding mult
mult_row k (operands.Two (operand.Register a) (operand.Register b)) = refl
mult_row k _ = refl

move_from_row : (k : MoveFromKind) → SaysRow (mnemonic.MoveFrom k) (General ∷ [])
unfolding move_from
move_from_row k (operands.One (operand.Register a)) = refl
move_from_row k _ = refl

move_to_row : (k : MoveToKind) → SaysRow (mnemonic.MoveTo k) (General ∷ [])
unfolding move_to
move_to_row k (operands.One (operand.Register a)) = refl
move_to_row k _ = refl

load_row : (k : LoadKind) → SaysRow (mnemonic.Load k) (General ∷ Offset ∷ [])
unfolding load
load_row k (operands.Two (operand.Register a) (operand.Offset n base)) =
    carried (signed_half n) (λ n. instruction.One (op.Load k a base n)) ∙ (half_fault n ∙ one_number (is_within (range (negsuc 32767) (pos 32767)) n))
load_row k _ = refl

store_row : (k : StoreKind) → SaysRow (mnemonic.Store k) (General ∷ Offset ∷ [])
unfolding store
store_row k (operands.Two (operand.Register a) (operand.Offset n base)) =
    carried (signed_half n) (λ n. instruction.One (op.Store k a base n)) ∙ (half_fault n ∙ one_number (is_within (range (negsuc 32767) (pos 32767)) n))
store_row k _ = refl

-- an index is that of a place
index_fault : (n : Number) (f : Target → Instruction) → fault_of ((natural 4096 n >>= λ index. Ok (target.Index index)) >>= λ place. Ok (f place)) ≡ judged true (not (is_within (range (pos 0) (pos 4096)) n) || false)
index_fault n f =
    carried (natural 4096 n >>= λ index. Ok (target.Index index)) f
    ∙ (carried (natural 4096 n) target.Index ∙ (natural_fault 4096 n ∙ one_number (is_within (range (pos 0) (pos 4096)) n)))

branch_two_row : (k : BranchTwoKind) → SaysRow (mnemonic.BranchTwo k) (General ∷ General ∷ Destination ∷ [])
unfolding branch_two
branch_two_row k (operands.Three (operand.Register a) (operand.Register b) (operand.Index n)) = index_fault n (λ place. instruction.BranchTwo k a b place)
branch_two_row k _ = refl

branch_one_row : (k : BranchOneKind) → SaysRow (mnemonic.BranchOne k) (General ∷ Destination ∷ [])
unfolding branch_one
branch_one_row k (operands.Two (operand.Register a) (operand.Index n)) = index_fault n (λ place. instruction.BranchOne k a place)
branch_one_row k _ = refl

jump_row : SaysRow mnemonic.Jump (Destination ∷ [])
unfolding jump
jump_row (operands.One (operand.Index n)) = index_fault n instruction.Jump
jump_row _ = refl

jump_link_row : SaysRow mnemonic.JumpLink (Destination ∷ [])
unfolding jump_link
jump_link_row (operands.One (operand.Index n)) = index_fault n instruction.JumpLink
jump_link_row _ = refl

jump_reg_row : SaysRow mnemonic.JumpReg (General ∷ [])
unfolding jump_reg
jump_reg_row (operands.One (operand.Register a)) = refl
jump_reg_row _ = refl

out_row : SaysRow mnemonic.Out (General ∷ [])
unfolding out
out_row (operands.One (operand.Register a)) = refl
out_row _ = refl

halt_row : SaysRow mnemonic.Halt []
unfolding halt
halt_row operands.Zero = refl
halt_row _ = refl

nop_row : SaysRow mnemonic.Nop []
unfolding nop
nop_row operands.Zero = refl
nop_row _ = refl

move_row : SaysRow mnemonic.Move (General ∷ General ∷ [])
unfolding copy
move_row (operands.Two (operand.Register a) (operand.Register b)) = refl
move_row _ = refl

load_immediate_row : SaysRow mnemonic.LoadImmediate (General ∷ Numeral ∷ [])
unfolding load_immediate
load_immediate_row (operands.Two (operand.Register a) (operand.Number n)) =
    carried (word n) (λ w. immediate a w) ∙ (word_fault n ∙ one_number (is_within (range (negsuc 2147483647) (pos 4294967295)) n))
load_immediate_row _ = refl

load_address_row : SaysRow mnemonic.LoadAddress (General ∷ Name ∷ [])
unfolding load_address
load_address_row (operands.Two (operand.Register a) (operand.Label name)) = refl
load_address_row _ = refl

-- `jalr` has one register or two

link_row : (os : Operands)
    → fault_of (row_of mnemonic.JumpLinkReg os)
    ≡ judged (are_kinds (General ∷ []) (listed os) || are_kinds (General ∷ General ∷ []) (listed os)) (beyond_operands (numbers_of mnemonic.JumpLinkReg) (listed os))
unfolding jump_link_reg
link_row (operands.One (operand.Register a)) = refl
link_row (operands.Two (operand.Register a) (operand.Register b)) = refl
link_row _ = refl

by_two : (numbers : Range) (ks ls : List Kind) (one two : Bool) (ts : List Token) (row : Operands → Result Instruction StatementFault)
    → ((os : Operands) → fault_of (row os) ≡ judged (are_kinds ks (listed os) || are_kinds ls (listed os)) (beyond_operands numbers (listed os)))
    → (r : Result Operands StatementFault) → AllAgree numbers ks one ts (as_list r) → AllAgree numbers ls two ts (as_list r)
    → fault_of (r >>= row) ≡ judged (one || two) (beyond_tokens numbers ts)
by_two numbers ks ls one two ts row says (Ok os) a b = says os ∙ sym (ap₂ judged (ap₂ ◌||◌ a.0 b.0) a.1)
by_two numbers ks ls one two ts row says (Err f) a b = ap Some a.1 ∙ sym (ap (λ whole. judged whole (beyond_tokens numbers ts)) (ap₂ ◌||◌ a.0 b.0))

link_agrees : (ts : List Token) → fault_of (with_operands mnemonic.JumpLinkReg ts) ≡ instruction_fault mnemonic.JumpLinkReg ts
link_agrees ts =
    let numbers = numbers_of mnemonic.JumpLinkReg in
    by_two numbers (General ∷ []) (General ∷ General ∷ []) (is_whole Before (all_parts (General ∷ [])) ts) (is_whole Before (all_parts (General ∷ General ∷ [])) ts) ts (row_of mnemonic.JumpLinkReg) link_row
    (operands_of ts) (operands_agree numbers (General ∷ []) ts (omega arith)) (operands_agree numbers (General ∷ General ∷ []) ts (omega arith))

-- all but `release`
pub row_agrees : (m : Mnemonic) (ts : List Token) → (m ≡ mnemonic.Release → ⊥) → fault_of (with_operands m ts) ≡ instruction_fault m ts
row_agrees (mnemonic.Three k) ts other = by_kinds (mnemonic.Three k) (General ∷ General ∷ General ∷ []) ts (omega arith) (three_row k)
row_agrees (mnemonic.ShiftBy k) ts other = by_kinds (mnemonic.ShiftBy k) (General ∷ General ∷ Numeral ∷ []) ts (omega arith) (shift_by_row k)
row_agrees (mnemonic.ShiftVar k) ts other = by_kinds (mnemonic.ShiftVar k) (General ∷ General ∷ General ∷ []) ts (omega arith) (shift_var_row k)
row_agrees (mnemonic.Imm k) ts other = by_kinds (mnemonic.Imm k) (General ∷ General ∷ Numeral ∷ []) ts (omega arith) (imm_row k)
row_agrees (mnemonic.Logic k) ts other = by_kinds (mnemonic.Logic k) (General ∷ General ∷ Numeral ∷ []) ts (omega arith) (logic_row k)
row_agrees mnemonic.Lui ts other = by_kinds mnemonic.Lui (General ∷ Numeral ∷ []) ts (omega arith) lui_row
row_agrees (mnemonic.Mult k) ts other = by_kinds (mnemonic.Mult k) (General ∷ General ∷ []) ts (omega arith) (mult_row k)
row_agrees (mnemonic.MoveFrom k) ts other = by_kinds (mnemonic.MoveFrom k) (General ∷ []) ts (omega arith) (move_from_row k)
row_agrees (mnemonic.MoveTo k) ts other = by_kinds (mnemonic.MoveTo k) (General ∷ []) ts (omega arith) (move_to_row k)
row_agrees (mnemonic.Load k) ts other = by_kinds (mnemonic.Load k) (General ∷ Offset ∷ []) ts (omega arith) (load_row k)
row_agrees (mnemonic.Store k) ts other = by_kinds (mnemonic.Store k) (General ∷ Offset ∷ []) ts (omega arith) (store_row k)
row_agrees (mnemonic.BranchTwo k) ts other = by_kinds (mnemonic.BranchTwo k) (General ∷ General ∷ Destination ∷ []) ts (omega arith) (branch_two_row k)
row_agrees (mnemonic.BranchOne k) ts other = by_kinds (mnemonic.BranchOne k) (General ∷ Destination ∷ []) ts (omega arith) (branch_one_row k)
row_agrees mnemonic.Jump ts other = by_kinds mnemonic.Jump (Destination ∷ []) ts (omega arith) jump_row
row_agrees mnemonic.JumpLink ts other = by_kinds mnemonic.JumpLink (Destination ∷ []) ts (omega arith) jump_link_row
row_agrees mnemonic.JumpReg ts other = by_kinds mnemonic.JumpReg (General ∷ []) ts (omega arith) jump_reg_row
row_agrees mnemonic.JumpLinkReg ts other = link_agrees ts
row_agrees mnemonic.Out ts other = by_kinds mnemonic.Out (General ∷ []) ts (omega arith) out_row
row_agrees mnemonic.Release ts other = absurd (other refl)
row_agrees mnemonic.Halt ts other = by_kinds mnemonic.Halt [] ts (omega arith) halt_row
row_agrees mnemonic.Nop ts other = by_kinds mnemonic.Nop [] ts (omega arith) nop_row
row_agrees mnemonic.Move ts other = by_kinds mnemonic.Move (General ∷ General ∷ []) ts (omega arith) move_row
row_agrees mnemonic.LoadImmediate ts other = by_kinds mnemonic.LoadImmediate (General ∷ Numeral ∷ []) ts (omega arith) load_immediate_row
row_agrees mnemonic.LoadAddress ts other = by_kinds mnemonic.LoadAddress (General ∷ Name ∷ []) ts (omega arith) load_address_row
