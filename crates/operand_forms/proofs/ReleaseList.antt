-- The registers of a `release` are read as the walk goes over them.
use Rattle.std.proofs.Common.{◌≡◌, ℕ, List, [], ◌∷◌, Bool, true, false, Some, Result, Ok, Err, refl, sym, ap, ap₂, ◌∙◌}
use Rattle.program_tokens.specs.declared.token.Token.{Token}
use Rattle.program_tokens.specs.declared.token.Token.TheVariants as token
use Rattle.mips_instructions.specs.declared.instruction.Op.TheVariants as op
use Rattle.mips_instructions.specs.declared.instruction.Mnemonic.TheVariants as mnemonic
use Rattle.program_statements.specs.Steps.{◌>>=◌}
use Rattle.program_statements.specs.Statements.{registers_of, registers_at, with_registers, release_of}
use Rattle.program_statements.specs.declared.fault.StatementFault.{StatementFault}
use Rattle.program_statements.specs.declared.fault.StatementFault.TheVariants as fault
use Rattle.program_statements.specs.declared.statement.Instruction.{Instruction}
use Rattle.program_statements.specs.declared.statement.Instruction.TheVariants as instruction
use Rattle.operand_forms.specs.declared.form.OperandPart.TheVariants.{RegisterList}
use Rattle.operand_forms.specs.declared.form.Inside.TheVariants.{Before, AfterComma}
use Rattle.operand_forms.specs.OperandForms.{is_whole, has_beyond, judged, instruction_shape, instruction_fault, fault_of}

abbrev is_list : List Token → Bool
is_list ts = is_whole AfterComma (RegisterList ∷ []) ts

-- what registers that were read say of their tokens, and what stands after them
abbrev EndsSo : (list beyond : Bool) (after : List Token) → Type 0
EndsSo list beyond [] = (list ≡ true) × (beyond ≡ false)
EndsSo list beyond (t ∷ ts) = list ≡ false

abbrev RegistersAgree : (list beyond : Bool) → Result (List ℕ × List Token) StatementFault → Type 0
RegistersAgree list beyond (Ok x) = EndsSo list beyond x.1
RegistersAgree list beyond (Err f) = (list ≡ false) × (f ≡ fault.Operand)

registers_agree : (ts : List Token) → RegistersAgree (is_list ts) (has_beyond (instruction_shape mnemonic.Release) ts) (registers_of ts)
unfolding registers_of
registers_agree (token.Register r ∷ token.Comma ∷ ts) =
    (elim (registers_of ts) as (λ read. RegistersAgree (is_list ts) (has_beyond (instruction_shape mnemonic.Release) ts) read
    → RegistersAgree (is_list ts) (has_beyond (instruction_shape mnemonic.Release) ts) (read >>= λ others. Ok (r ∷ others.0, others.1)))
    [ Ok x ↦ λ a. a | Err f ↦ λ a. a ]) (registers_agree ts)
registers_agree (token.Register r ∷ []) = (refl, refl)
registers_agree (token.Register r ∷ t ∷ ts) = refl
registers_agree ts = (refl, refl)

-- the first member is as one after a comma
first_member : (ts : List Token) → is_whole Before (RegisterList ∷ []) ts ≡ is_list ts
first_member [] = refl
first_member (t ∷ ts) = refl

abbrev pub as_set : Result (List ℕ × List Token) StatementFault → Result (ℕ × List Token) StatementFault
as_set read = read >>= λ x. Ok (with_registers 0 x.0, x.1)

abbrev released : Result (ℕ × List Token) StatementFault → Result Instruction StatementFault
released read = read >>= λ registers. elim registers.1 [ [] ↦ Ok (instruction.One (op.Release registers.0)) | t ∷ ts ↦ Err fault.Operand ]

judged_so : (list beyond : Bool) (read : Result (List ℕ × List Token) StatementFault) → RegistersAgree list beyond read
    → fault_of (released (as_set read)) ≡ judged list beyond
judged_so list beyond (Ok (rs, [])) a = sym (ap₂ judged a.0 a.1)
judged_so list beyond (Ok (rs, t ∷ ts)) a = sym (ap (λ list. judged list beyond) a)
judged_so list beyond (Err f) a = ap Some a.1 ∙ sym (ap (λ list. judged list beyond) a.0)

pub release_agrees : (ts : List Token) → fault_of (release_of ts) ≡ instruction_fault mnemonic.Release ts
unfolding release_of registers_at
release_agrees ts =
    judged_so (is_list ts) (has_beyond (instruction_shape mnemonic.Release) ts) (registers_of ts) (registers_agree ts)
    ∙ ap (λ list. judged list (has_beyond (instruction_shape mnemonic.Release) ts)) (sym (first_member ts))
