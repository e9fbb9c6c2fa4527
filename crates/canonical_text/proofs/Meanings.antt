-- The tokens of an instruction mean that instruction.
use Rattle.canonical_text.proofs.Imports.{◌≡◌, ℕ, ◌<◌, ◌≤◌, ◌^◌, List, [], ◌∷◌, Bool, true, false, cond, Option, Some, None, Result, Ok, Err, arith, refl, ap, sym, ◌∙◌, ◌==◌, ◌||◌, ℤ, pos, negsuc, find, filter, nat_lt, nat_le, list_any, list_all, AllByRecursion, bytes_eq, lt-ltb, le-leb, cond-true, false≢true, and_parts, recursion_from_All, bytes_eq-Decides, Op, Three, ShiftBy, ShiftVar, Imm, Logic, Lui, Mult, MoveFrom, MoveTo, Load, Store, BranchTwo, BranchOne, Jump, JumpLink, JumpReg, JumpLinkReg, Out, Release, Halt, is_name, Descriptor, Token, Small, members, mnemonic_named, mnemonics, mnemonic_of, word_of, name_of, operands, Names, target_place, ◌>>=◌, registers_at, release_of, unmarked, of_mnemonic, no_marks, instruction_of, StatementFault, Target, Instruction, with_registers, registers_of, append-nil, has, release_fits, registers, IsHalf, IsOperandInRange, IsInRange}
use Rattle.std.specs.Prelude.{length}
use Rattle.mips_instructions.specs.declared.instruction.ThreeKind.TheVariants.{Addu}
use Rattle.mips_instructions.specs.declared.instruction.ShiftByKind.TheVariants.{Sll}
use Rattle.mips_instructions.specs.declared.instruction.ShiftVarKind.TheVariants.{Sllv}
use Rattle.mips_instructions.specs.declared.instruction.ImmKind.TheVariants.{Addiu}
use Rattle.mips_instructions.specs.declared.instruction.LogicKind.TheVariants.{Andi}
use Rattle.mips_instructions.specs.declared.instruction.MultKind.TheVariants as mult
use Rattle.mips_instructions.specs.declared.instruction.MoveFromKind.TheVariants.{Mfhi}
use Rattle.mips_instructions.specs.declared.instruction.MoveToKind.TheVariants.{Mthi}
use Rattle.mips_instructions.specs.declared.instruction.LoadKind.TheVariants.{Lw}
use Rattle.mips_instructions.specs.declared.instruction.StoreKind.TheVariants.{Sw}
use Rattle.mips_instructions.specs.declared.instruction.BranchTwoKind.{BranchTwoKind}
use Rattle.mips_instructions.specs.declared.instruction.BranchTwoKind.TheVariants.{Beq}
use Rattle.mips_instructions.specs.declared.instruction.BranchOneKind.{BranchOneKind}
use Rattle.mips_instructions.specs.declared.instruction.BranchOneKind.TheVariants.{Blez}
use Rattle.program_tokens.specs.declared.token.Token.TheVariants as token
use Rattle.annotated_asm.specs.Resolve.{spelled}
use Rattle.program_statements.specs.Operands.{operands_of, operand_at, base_at, after_one, after_two}
use Rattle.program_statements.specs.Rows.{three, shift_by, shift_var, imm, logic, lui, mult as mult_of, move_from, move_to, load, store, branch_two, branch_one, jump, jump_link, jump_reg, jump_link_reg, out, halt}
use Rattle.mips_instructions.specs.declared.instruction.Mnemonic.{Mnemonic}
use Rattle.mips_instructions.specs.declared.instruction.Mnemonic.TheVariants as mnemonic
use Rattle.program_statements.specs.declared.statement.Section.TheVariants as section
use Rattle.program_statements.specs.declared.statement.Target.TheVariants as target
use Rattle.program_statements.specs.declared.statement.Instruction.TheVariants as instruction
use Rattle.program_statements.specs.declared.statement.Statement.TheVariants as statement
use Rattle.program_statements.specs.Ranges.{signed_half}
use Rattle.program_statements.specs.declared.fault.StatementFault.TheVariants as fault
use Rattle.canonical_text.proofs.SetTexts.{members_back, registers_back}
use Rattle.canonical_text.proofs.Operations.{comma_tokens, register_tokens, place_token_named, reg, behind_name, op_tokens}

-- a place by name where a task begins there
abbrev pub target_named : Option Descriptor → ℕ → Target
target_named (Some task) place = target.Label task.name
target_named None place = target.Index place

abbrev pub target_of : List Descriptor → ℕ → Target
target_of tasks place = target_named (find (λ t. t.entry == place) tasks) place

-- an instruction as its text has it
abbrev pub written : List Descriptor → Op → Instruction
written tasks (BranchTwo k rs rt place) = instruction.BranchTwo k rs rt (target_of tasks place)
written tasks (BranchOne k rs place) = instruction.BranchOne k rs (target_of tasks place)
written tasks (Jump place) = instruction.Jump (target_of tasks place)
written tasks (JumpLink place) = instruction.JumpLink (target_of tasks place)
written tasks o = instruction.One o

-- the same instruction is read, if its places are found
pub written_back : (labels : Names) (tasks : List Descriptor) (n : ℕ) (o : Op) → ((place : ℕ) → target_place labels n (target_of tasks place) ≡ Ok place)
    → spelled labels n (written tasks o) ≡ Ok (o ∷ [])
written_back labels tasks n (BranchTwo k rs rt place) found = ap (λ read. read >>= λ place. Ok (BranchTwo k rs rt place ∷ [])) (found place)
written_back labels tasks n (BranchOne k rs place) found = ap (λ read. read >>= λ place. Ok (BranchOne k rs place ∷ [])) (found place)
written_back labels tasks n (Jump place) found = ap (λ read. read >>= λ place. Ok (Jump place ∷ [])) (found place)
written_back labels tasks n (JumpLink place) found = ap (λ read. read >>= λ place. Ok (JumpLink place ∷ [])) (found place)
written_back labels tasks n _ found = refl

-- Names.

-- each mnemonic is found by its word: one computation for each kind
word_found : (m : Mnemonic) → mnemonic_named (word_of m) mnemonics ≡ Some m
word_found (mnemonic.Three Addu) = refl
word_found (mnemonic.Three _) = refl
word_found (mnemonic.ShiftBy Sll) = refl
word_found (mnemonic.ShiftBy _) = refl
word_found (mnemonic.ShiftVar Sllv) = refl
word_found (mnemonic.ShiftVar _) = refl
word_found (mnemonic.Imm Addiu) = refl
word_found (mnemonic.Imm _) = refl
word_found (mnemonic.Logic Andi) = refl
word_found (mnemonic.Logic _) = refl
word_found (mnemonic.Mult mult.Mult) = refl
word_found (mnemonic.Mult _) = refl
word_found (mnemonic.MoveFrom Mfhi) = refl
word_found (mnemonic.MoveFrom _) = refl
word_found (mnemonic.MoveTo Mthi) = refl
word_found (mnemonic.MoveTo _) = refl
word_found (mnemonic.Load Lw) = refl
word_found (mnemonic.Load _) = refl
word_found (mnemonic.Store Sw) = refl
word_found (mnemonic.Store _) = refl
word_found (mnemonic.BranchTwo Beq) = refl
word_found (mnemonic.BranchTwo _) = refl
word_found (mnemonic.BranchOne Blez) = refl
word_found (mnemonic.BranchOne _) = refl
word_found _ = refl

name_found : (o : Op) → mnemonic_named (name_of o) mnemonics ≡ Some (mnemonic_of o)
name_found o = word_found (mnemonic_of o)

-- a word of a table of names is a name
named_in : (name : List ℕ) (m : Mnemonic) (table : List (List ℕ × Mnemonic)) → list_all (λ (row : List ℕ × Mnemonic). is_name row.0) table ≡ true
    → mnemonic_named name table ≡ Some m → is_name name ≡ true
named_in name m [] all found = absurd cc
named_in name m (row ∷ rows) all found =
    let parts = and_parts (is_name row.0) (list_all (λ (row : List ℕ × Mnemonic). is_name row.0) rows) all in
    (elim (bytes_eq row.0 name) as (λ b. bytes_eq row.0 name ≡ b → cond b (Some row.1) (mnemonic_named name rows) ≡ Some m → is_name name ≡ true) [
      | true ↦ λ same _. ap is_name (sym ((bytes_eq-Decides row.0 name).0 same)) ∙ parts.0
      | false ↦ λ _ behind. named_in name m rows parts.1 behind
    ]) refl found

pub is_named : (o : Op) → is_name (name_of o) ≡ true
is_named o = named_in (name_of o) (mnemonic_of o) mnemonics refl (name_found o)

pub few_operands : (o : Op) → length (operands o) ≤ 3
few_operands Halt = omega arith
few_operands _ = omega arith

-- Operands in range: a place stands for its task where one begins there.

branch_two_row : (k : BranchTwoKind) (rs rt : ℕ) (at : Option Descriptor) (place : ℕ) → nat_lt rs 32 ≡ true → nat_lt rt 32 ≡ true → nat_le place 4096 ≡ true → instruction_of (mnemonic.BranchTwo k) (comma_tokens (reg rs ∷ reg rt ∷ (place_token_named at place ∷ []) ∷ [])) ≡ Ok (instruction.BranchTwo k rs rt (target_named at place))
unfolding operands_of operand_at base_at after_one after_two branch_two
branch_two_row k rs rt (Some task) place a b h = rw (a, b) refl
branch_two_row k rs rt None place a b h = rw (a, b, h) refl

branch_one_row : (k : BranchOneKind) (rs : ℕ) (at : Option Descriptor) (place : ℕ) → nat_lt rs 32 ≡ true → nat_le place 4096 ≡ true → instruction_of (mnemonic.BranchOne k) (comma_tokens (reg rs ∷ (place_token_named at place ∷ []) ∷ [])) ≡ Ok (instruction.BranchOne k rs (target_named at place))
unfolding operands_of operand_at base_at after_one after_two branch_one
branch_one_row k rs (Some task) place a h = rw (a) refl
branch_one_row k rs None place a h = rw (a, h) refl

jump_row : (at : Option Descriptor) (place : ℕ) → nat_le place 4096 ≡ true → instruction_of mnemonic.Jump (comma_tokens ((place_token_named at place ∷ []) ∷ [])) ≡ Ok (instruction.Jump (target_named at place))
unfolding operands_of operand_at base_at after_one after_two jump
jump_row (Some task) place h = refl
jump_row None place h = rw (h) refl

jump_link_row : (at : Option Descriptor) (place : ℕ) → nat_le place 4096 ≡ true → instruction_of mnemonic.JumpLink (comma_tokens ((place_token_named at place ∷ []) ∷ [])) ≡ Ok (instruction.JumpLink (target_named at place))
unfolding operands_of operand_at base_at after_one after_two jump_link
jump_link_row (Some task) place h = refl
jump_link_row None place h = rw (h) refl

abbrev pub is_empty : List ℕ → Bool
is_empty [] = true
is_empty (r ∷ rs) = false

release_row : (rs : List ℕ) (set : ℕ) → is_empty rs ≡ false → with_registers 0 rs ≡ set
    → instruction_of mnemonic.Release (comma_tokens (register_tokens rs)) ≡ Ok (instruction.One (Release set))
unfolding release_of registers_at
release_row [] set some is = absurd (false≢true (sym some))
release_row (r ∷ rs) set some is =
    let back : registers_of (comma_tokens (register_tokens (r ∷ rs))) ≡ Ok (r ∷ rs, []) =
    ap registers_of (sym (append-nil (comma_tokens (register_tokens (r ∷ rs))))) ∙ registers_back r rs [] refl in
    rw back (ap (λ s. Ok (instruction.One (Release s))) is)

some_filtered : (test : ℕ → Bool) (xs : List ℕ) → list_any test xs ≡ true → is_empty (filter test xs) ≡ false
some_filtered test [] h = absurd (false≢true h)
some_filtered test (x ∷ xs) h =
    (elim (test x) as (λ b. (b || list_any test xs) ≡ true → is_empty (cond b (x ∷ filter test xs) (filter test xs)) ≡ false) [
      | true ↦ λ _. refl
      | false ↦ λ e. some_filtered test xs e
    ]) h

some_member : (set : ℕ) → release_fits (Release set) ≡ true → is_empty (members set) ≡ false
unfolding members
some_member set h = some_filtered (has set) registers (and_parts (list_any (has set) registers) _ h).0

-- The ranges, as the rows test them.

below : (r : ℕ) → r < 32 → nat_lt r 32 ≡ true
below r h = lt-ltb r 32 h

at_most : (high n : ℕ) → n ≤ high → nat_le n high ≡ true
at_most high n h = le-leb n high h

half : (n : ℤ) → IsHalf n → signed_half (Small n) ≡ Ok n
half (pos n) h = cond-true (nat_lt n (2 ^ 15)) (Ok (pos n)) (Err fault.Number) (lt-ltb n (2 ^ 15) h)
half (negsuc n) h = cond-true (nat_lt n (2 ^ 15)) (Ok (negsuc n)) (Err fault.Number) (lt-ltb n (2 ^ 15) h)

-- the operands, all in range, are those of the instruction
operands_mean : (tasks : List Descriptor) (o : Op) → AllByRecursion IsOperandInRange (operands o) → release_fits o ≡ true
    → instruction_of (mnemonic_of o) (behind_name tasks o) ≡ Ok (written tasks o)
unfolding operands_of operand_at base_at after_one after_two three shift_by shift_var imm logic lui mult_of move_from move_to load store jump_reg jump_link_reg out halt
operands_mean tasks (Three k rd rs rt) h f = rw (below rd h.0, below rs h.1.0, below rt h.1.1.0) refl
operands_mean tasks (ShiftBy k rd rt n) h f = rw (below rd h.0, below rt h.1.0, at_most 31 n (omega (arith, h.1.1.0))) refl
operands_mean tasks (ShiftVar k rd rt rs) h f = rw (below rd h.0, below rt h.1.0, below rs h.1.1.0) refl
operands_mean tasks (Imm k rt rs n) h f = rw (below rt h.0, below rs h.1.0, half n h.1.1.0) refl
operands_mean tasks (Logic k rt rs n) h f = rw (below rt h.0, below rs h.1.0, at_most 65535 n (omega (arith, h.1.1.0))) refl
operands_mean tasks (Lui rt n) h f = rw (below rt h.0, at_most 65535 n (omega (arith, h.1.0))) refl
operands_mean tasks (Mult k rs rt) h f = rw (below rs h.0, below rt h.1.0) refl
operands_mean tasks (MoveFrom k rd) h f = rw (below rd h.0) refl
operands_mean tasks (MoveTo k rs) h f = rw (below rs h.0) refl
operands_mean tasks (Load k rt base n) h f = rw (below rt h.0, below base h.1.0.1, half n h.1.0.0) refl
operands_mean tasks (Store k rt base n) h f = rw (below rt h.0, below base h.1.0.1, half n h.1.0.0) refl
operands_mean tasks (BranchTwo k rs rt place) h f = branch_two_row k rs rt (find (λ t. t.entry == place) tasks) place (below rs h.0) (below rt h.1.0) (at_most 4096 place h.1.1.0)
operands_mean tasks (BranchOne k rs place) h f = branch_one_row k rs (find (λ t. t.entry == place) tasks) place (below rs h.0) (at_most 4096 place h.1.0)
operands_mean tasks (Jump place) h f = jump_row (find (λ t. t.entry == place) tasks) place (at_most 4096 place h.0)
operands_mean tasks (JumpLink place) h f = jump_link_row (find (λ t. t.entry == place) tasks) place (at_most 4096 place h.0)
operands_mean tasks (JumpReg rs) h f = rw (below rs h.0) refl
operands_mean tasks (JumpLinkReg rd rs) h f = rw (below rd h.0, below rs h.1.0) refl
operands_mean tasks (Out rs) h f = rw (below rs h.0) refl
operands_mean tasks (Release set) h f = release_row (members set) set (some_member set f) (members_back set h.0)
operands_mean tasks Halt h f = refl

-- an instruction's name gives its row
from_row : (name : List ℕ) (m : Mnemonic) (operands : List Token) (i : Instruction) → mnemonic_named name mnemonics ≡ Some m
    → instruction_of m operands ≡ Ok i → unmarked section.Text (token.Name name ∷ operands) ≡ Ok (statement.Code i no_marks)
from_row name m operands i found row =
    ap (λ (o : Option Mnemonic). of_mnemonic o operands) found ∙ ap (λ (r : Result Instruction StatementFault). r >>= λ i. Ok (statement.Code i no_marks)) row

pub op_means : (tasks : List Descriptor) (o : Op) → IsInRange o → release_fits o ≡ true
    → unmarked section.Text (op_tokens tasks o) ≡ Ok (statement.Code (written tasks o) no_marks)
op_means tasks o h f =
    from_row (name_of o) (mnemonic_of o) (behind_name tasks o) (written tasks o) (name_found o)
    (operands_mean tasks o (recursion_from_All IsOperandInRange (operands o) h) f)
